-- A text has one list of tokens or one fault, never both.
use Rattle.std.proofs.Common.{◌≡◌, ℕ, List, [], ◌∷◌, ◌++◌, Bool, true, false, sym, ◌∙◌, ap, refl, subst}
use Rattle.std.proofs.Common.{get_or, length, ltb, ◌+◌, ◌||◌, arith}
use Rattle.std.specs.Prelude.{◌==◌, slice_range, Option, Some, None}
use Rattle.std.specs.Bool.{MatchBool}
use Rattle.text_base.specs.Text.{run_end}
use Rattle.text_base.specs.declared.reasons.PageReason.{PageReason}
use Rattle.text_base.specs.declared.reasons.PageReason.TheVariants.{BadTag}
use Rattle.html_lexer.specs.Kinds.{is_name_byte, is_gap}
use Rattle.html_lexer.specs.Names.{is_escapable}
use Rattle.html_lexer.specs.declared.tags.AttrStep.{AttrStep}
use Rattle.html_lexer.specs.Tags.{TagComesTo}
use Rattle.html_lexer.specs.declared.steps.TokenAt.{TokenAt}
use Rattle.html_lexer.specs.declared.steps.TokenAt.TheVariants.{Text}
use Rattle.html_lexer.specs.declared.steps.Step.{Step}
use Rattle.html_lexer.specs.declared.steps.Step.TheVariants.{Gives, Fails}
use Rattle.html_lexer.specs.Steps.{StepAt, StartAt, MarkupAt, start_of, starts_at, other_at, raw_end}
use Rattle.html_lexer.specs.State.{Reading}
use Rattle.html_lexer.specs.Tokens.{Tok, tok_at, end_of, name_after, last_name}
use Rattle.html_lexer.specs.Lexing.{Begins, Spell, Lexes, LexFault, HasRead}
use Rattle.html_lexer.proofs.TagLemmas.{same_tag}

abbrev IsOne : (Step → Type 0) → Type 0
IsOne P = (x y : Step) → P x → P y → x ≡ y

-- a choice between two facts that fix a step fixes it
one_of : (b : Bool) (P Q : Step → Type 0) → IsOne P → IsOne Q → IsOne (λ x. MatchBool b (P x) (Q x))
one_of true P Q p q x y h k = p x y h k
one_of false P Q p q x y h k = q x y h k

is_step : (s : Step) → IsOne (λ x. x ≡ s)
is_step s x y h k = h ∙ sym k

one_tag : (text name : List ℕ) (n : ℕ) → IsOne (λ step. (out : AttrStep) × TagComesTo text n out × (step ≡ start_of name n out))
one_tag text name n x y h k = h.2 ∙ ap (start_of name n) (same_tag text n h.1.0 k.1.0 h.0 k.0 h.1.1 k.1.1).1 ∙ sym k.2

one_start : (text : List ℕ) (i n : ℕ) → IsOne (StartAt text i n)
one_start text i n =
    one_of (is_gap (get_or text n 0) || (get_or text n 0 == 62)) _ _ (one_tag text (slice_range text (i + 1) n) n) (is_step (Fails BadTag))

one_markup : (text : List ℕ) (i : ℕ) → IsOne (MarkupAt text i)
one_markup text i =
    one_of (starts_at text i) (StartAt text i (run_end is_name_byte text (i + 1))) (λ step. step ≡ other_at text i) (one_start text i _) (is_step (other_at text i))

-- at a place, after a start tag of a name, a text has one step
pub same_step : (text name : List ℕ) (i : ℕ) → IsOne (StepAt text name i)
same_step text name i x y h k =
    let raw = Gives (Text (raw_end text name i) (is_escapable name)) in
    one_of (ltb i (raw_end text name i)) (λ step. step ≡ raw) (MarkupAt text i) (is_step raw) (one_markup text i) x y h.1 k.1

-- where tokens end: at the text's end, or at a step
abbrev Stop : List ℕ → List ℕ → ℕ → Option Step → Type 0
Stop text name i None = i ≡ length text
Stop text name i (Some step) = StepAt text name i step

same_stop : (text name : List ℕ) (i : ℕ) (a b : Option Step) → Stop text name i a → Stop text name i b → a ≡ b
same_stop text name i None None h k = refl
same_stop text name i None (Some y) h k = absurd (let l = k.0 in omega arith)
same_stop text name i (Some x) None h k = absurd (let l = h.0 in omega arith)
same_stop text name i (Some x) (Some y) h k = ap Some (same_step text name i x y h k)

-- at a place one token begins
pub same_token : (text name : List ℕ) (i : ℕ) (t u : Tok) → Begins text name i t → Begins text name i u → t ≡ u
same_token text name i t u h k =
    let e : Gives h.0 ≡ Gives k.0 = same_step text name i (Gives h.0) (Gives k.0) h.1 k.1 in
    let f : h.0 ≡ k.0 = cc in
    h.2 ∙ ap (tok_at text i) f ∙ sym k.2

-- one more token at the end
pub spell_push : (text name : List ℕ) (i j : ℕ) (ts : List Tok) (t : Tok) → Spell text name i ts j → Begins text (last_name name ts) j t → Spell text name i (ts ++ t ∷ []) (end_of t)
spell_push text name i j [] t h step = (subst (λ k. Begins text name k t) (sym h) step, refl)
spell_push text name i j (u ∷ ts) t h step = (h.0, spell_push text (name_after u) (end_of u) j ts t h.1 step)

pub last_push : (name : List ℕ) (ts : List Tok) (t : Tok) → last_name name (ts ++ t ∷ []) ≡ name_after t
last_push name [] t = refl
last_push name (u ∷ ts) t = last_push (name_after u) ts t

-- what gives no token ends the list
same_spelling : (text name : List ℕ) (i j k : ℕ) (us vs : List Tok) (a b : Option Step) → Spell text name i us j → Spell text name i vs k → Stop text (last_name name us) j a → Stop text (last_name name vs) k b → ((t : TokenAt) → a ≡ Some (Gives t) → ⊥) → ((t : TokenAt) → b ≡ Some (Gives t) → ⊥) → (us ≡ vs) × (j ≡ k) × (a ≡ b)
same_spelling text name i j k [] [] a b h l x y na nb =
    (refl, sym h ∙ l, same_stop text name i a b (subst (λ m. Stop text name m a) (sym h) x) (subst (λ m. Stop text name m b) (sym l) y))
same_spelling text name i j k [] (v ∷ vs) a b h l x y na nb =
    absurd (na l.0.0 (same_stop text name i a (Some (Gives l.0.0)) (subst (λ m. Stop text name m a) (sym h) x) l.0.1))
same_spelling text name i j k (u ∷ us) [] a b h l x y na nb =
    absurd (nb h.0.0 (same_stop text name i b (Some (Gives h.0.0)) (subst (λ m. Stop text name m b) (sym l) y) h.0.1))
same_spelling text name i j k (u ∷ us) (v ∷ vs) a b h l x y na nb =
    let f : u ≡ v = same_token text name i u v h.0 l.0 in
    let later = same_spelling text (name_after u) (end_of u) j k us vs a b h.1 (subst (λ (t : Tok). Spell text (name_after t) (end_of t) vs k) (sym f) l.1) x (subst (λ (t : Tok). Stop text (last_name (name_after t) vs) k b) (sym f) y) na nb in
    let tails : us ≡ vs = later.0 in
    (cc, later.1, later.2)

pub one_reading : (text : List ℕ) (us vs : List Tok) → Lexes text (length text) us → Lexes text (length text) vs → us ≡ vs
one_reading text us vs h k =
    (same_spelling text [] 0 (length text) (length text) us vs None None h k refl refl (λ t e. cc) (λ t e. cc)).0

pub never_both : (text : List ℕ) (us : List Tok) (reason : PageReason) (at : ℕ) → Lexes text (length text) us → LexFault text reason at → ⊥
never_both text us reason at h k =
    let e = (same_spelling text [] 0 (length text) at us k.0 None (Some (Fails reason)) h k.1 refl k.2 (λ t e. cc) (λ t e. cc)).2 in
    cc

pub one_fault : (text : List ℕ) (reason other : PageReason) (at place : ℕ) → LexFault text reason at → LexFault text other place → (reason ≡ other) × (at ≡ place)
one_fault text reason other at place h k =
    let both = same_spelling text [] 0 at place h.0 k.0 (Some (Fails reason)) (Some (Fails other)) h.1 k.1 h.2 k.2 (λ t e. cc) (λ t e. cc) in
    (same_reason reason other both.2, both.1)
  where
    same_reason : (r s : PageReason) → Some (Fails r) ≡ Some (Fails s) → r ≡ s
    same_reason r s e = cc

-- what a lexer has read, call by call
pub read_none : (text : List ℕ) (r : Reading) → r ≡ record { text = text; at = 0; name = [] } → HasRead r
read_none text r e =
    let new : Reading = record { text = text; at = 0; name = [] } in
    let read : HasRead new = record { tokens = []; spelled = refl; named = refl } in
    subst HasRead (sym e) read

pub read_token : (old new : Reading) (t : Tok) → HasRead old → Begins old.text old.name old.at t → new ≡ record { text = old.text; at = end_of t; name = name_after t } → HasRead new
read_token old new t read begins e =
    let next : Reading = record { text = old.text; at = end_of t; name = name_after t } in
    let more : HasRead next =
    record {
      tokens = read.tokens ++ t ∷ [];
      spelled = spell_push old.text [] 0 old.at read.tokens t read.spelled (subst (λ n. Begins old.text n old.at t) read.named begins);
      named = sym (last_push [] read.tokens t);
    } in
    subst HasRead (sym e) more

pub read_fault : (text : List ℕ) (r : Reading) (reason : PageReason) (at : ℕ) → r.text ≡ text → HasRead r → StepAt r.text r.name r.at (Fails reason) → at ≡ r.at → LexFault text reason at
read_fault text r reason at same read fails e =
    subst (λ n. LexFault text reason n) (sym e)
    (subst (λ s. LexFault s reason r.at) same
    (read.tokens, read.spelled, subst (λ n. StepAt r.text n r.at (Fails reason)) read.named fails))

pub read_all : (text : List ℕ) (r : Reading) → r.text ≡ text → HasRead r → r.at ≡ length r.text → (tokens : List Tok) × Lexes text (length text) tokens
read_all text r same read end =
    subst (λ s. (tokens : List Tok) × Lexes s (length s) tokens) same (read.tokens, subst (λ n. Lexes r.text n read.tokens) end read.spelled)
