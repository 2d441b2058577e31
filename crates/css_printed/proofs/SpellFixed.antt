-- Pieces of a printed text, one in front of the other: those that stand in every text are read byte by byte.
use Rattle.std.proofs.Common.{◌≡◌, refl, sym, ◌∙◌, ap, subst, ℕ, zero, suc, ◌≤◌, Bool, true, false, ◌&&◌, ◌||◌, cond, List, [], ◌∷◌, ◌++◌, length, Option, Some, None, append_assoc, arith, ◌==◌, length-append, inl, inr}
use Rattle.std.specs.Prelude.{not}
use Rattle.std.specs.List.{list_any}
use Rattle.std.specs.Str.{chars}
use Rattle.std.proofs.lemmas.Bool.{and_parts, cases_Bool, not-true}
use Rattle.xpath_lexer.specs.declared.token.XKind.{XKind}
use Rattle.xpath_lexer.specs.declared.token.XKind.TheVariants as k
use Rattle.text_base.specs.Text.{is_space4}
use Rattle.text_base.specs.Names.{is_name_start, is_name_byte}
use Rattle.xpath_lexer.specs.Tokens.{Text, Lexeme, Begun, token, span, with_star, ends_with, Spells, space, next}
use Rattle.xpath_parser.specs.declared.term.Term.{Term}
use Rattle.xpath_parser.specs.declared.term.Term.TheVariants as t
use Rattle.xpath_lexer.specs.Places.{most_xpath}
use Rattle.xpath_parser.specs.Terms.{term_of, terms_after, next_kind, name_term, is_refused, is_operand}
use Rattle.css_printed.proofs.Rooms.{Fits, OnRoom, room_after}
use Rattle.css_printed.proofs.Spelling.{Spoken, Behind}

-- ---- what stands behind a piece

-- behind an operand, or not
abbrev pub Stands : ℕ → Bool → Text → List Term → Type 0
Stands room true text ts = Behind room text ts
Stands room false text ts = Spoken room false text ts

-- The piece puts these terms in front of what stands behind it, in a text that is not too long.
abbrev pub Puts : ℕ → Bool → ℕ → Bool → Text → List Term → Type 0
Puts room after room' after' x ts =
    (rest : Text) (us : List Term) → length (x ++ rest) ≤ most_xpath → Stands room' after' rest us → Stands room after (x ++ rest) (ts ++ us)

-- a piece with its text and its terms
pub record Piece (room : ℕ) (after : Bool) (room' : ℕ) (after' : Bool) : Type 0 where
  pub text : Text
  pub terms : List Term
  pub puts : Puts room after room' after' text terms

shorter : (x rest : Text) (most : ℕ) → length (x ++ rest) ≤ most → length rest ≤ most
shorter x rest most h = omega (arith, length-append x rest)

pub then_puts : (r : ℕ) (a : Bool) (r' : ℕ) (a' : Bool) (r'' : ℕ) (a'' : Bool) (x y : Text) (ts us : List Term)
    → Puts r a r' a' x ts → Puts r' a' r'' a'' y us → Puts r a r'' a'' (x ++ y) (ts ++ us)
then_puts r a r' a' r'' a'' x y ts us p q rest vs h b =
    let P : Text → Type 0 = λ z. Stands r a z ((ts ++ us) ++ vs) in
    let Q : List Term → Type 0 = λ z. Stands r a (x ++ (y ++ rest)) z in
    let L : Text → Type 0 = λ z. length z ≤ most_xpath in
    let long : length (x ++ (y ++ rest)) ≤ most_xpath = subst L (append_assoc x y rest) h in
    subst P (sym (append_assoc x y rest)) (subst Q (sym (append_assoc ts us vs))
    (p (y ++ rest) (us ++ vs) long (q rest vs (shorter x (y ++ rest) most_xpath long) b)))

infixr 40 ◌⨾◌
abbrev pub ◌⨾◌ : {r : ℕ} {a : Bool} {r' : ℕ} {a' : Bool} {r'' : ℕ} {a'' : Bool} → Piece r a r' a' → Piece r' a' r'' a'' → Piece r a r'' a''
◌⨾◌ {r = r} {a = a} {r' = r'} {a' = a'} {r'' = r''} {a'' = a''} p q = record {
  text = p.text ++ q.text;
  terms = p.terms ++ q.terms;
  puts = then_puts r a r' a' r'' a'' p.text q.text p.terms q.terms p.puts q.puts;
}

-- ---- tokens from the front

-- a token, found with one byte behind a name
abbrev name_end : Text → Text → Begun
name_end n [] = ends_with k.Name n []
name_end n (b ∷ bs) = end_by (b == 58)
  where
    end_by : Bool → Begun
    end_by true = with_star n (b ∷ bs)
    end_by false = ends_with k.Name n (b ∷ bs)

abbrev begun_by : Bool → ℕ → Text → Begun
begun_by true b bs = let s = span is_name_byte bs in name_end (b ∷ s.0) s.1
begun_by false b bs = token (b ∷ bs)

abbrev pub front : Text → Begun
front [] = None
front (b ∷ bs) = begun_by (is_name_start b) b bs

same_end : (n s : Text) → name_end n s ≡ with_star n s
same_end n [] = refl
same_end n (b ∷ bs) = elim (cases_Bool (b == 58)) [ inl e ↦ rw e refl | inr e ↦ after_name b bs e ]
  where
    after_name : (b : ℕ) (bs : Text) → (b == 58) ≡ false → name_end n (b ∷ bs) ≡ with_star n (b ∷ bs)
    after_name b [] e = rw e refl
    after_name b (c ∷ bs) e = rw e refl

same_begun : (v : Bool) (b : ℕ) (bs : Text) → is_name_start b ≡ v → token (b ∷ bs) ≡ begun_by v b bs
same_begun true b bs e = rw e (let s = span is_name_byte bs in sym (same_end (b ∷ s.0) s.1))
same_begun false b bs e = refl

front_token : (x : Text) → token x ≡ front x
front_token [] = refl
front_token (b ∷ bs) = same_begun (is_name_start b) b bs refl

abbrev Scanned : Type 0
Scanned = List Lexeme × Text

abbrev take_token : (Text → Scanned) → Text → Begun → Scanned
take_token go x None = ([], x)
take_token go x (Some p) = let s = go p.1 in (p.0 ∷ s.0, s.1)

abbrev take_unit : (Text → Scanned) → ℕ → Text → Bool → Scanned
take_unit go b bs true = go bs
take_unit go b bs false = take_token go (b ∷ bs) (front (b ∷ bs))

-- so many bytes of white space and tokens from the front, and what is left
abbrev pub scan : ℕ → Text → List Lexeme × Text
scan zero x = ([], x)
scan (suc n) [] = ([], [])
scan (suc n) (b ∷ bs) = take_unit (scan n) b bs (is_space4 b)

abbrev next_units : (Text → ℕ) → Text → Bool → Begun → ℕ
next_units go bs true found = suc (go bs)
next_units go bs false None = 0
next_units go bs false (Some p) = suc (go p.1)

-- how many a text has, if its length is at most the first number
abbrev pub units : ℕ → Text → ℕ
units zero x = 0
units (suc n) [] = 0
units (suc n) (b ∷ bs) = next_units (units n) bs (is_space4 b) (front (b ∷ bs))

abbrev IsScan : (Text → Scanned) → Type 0
IsScan go = (y : Text) (ws : List Lexeme) → Spells (go y).1 ws → Spells y ((go y).0 ++ ws)

token_scanned : (go : Text → Scanned) → IsScan go → (x : Text) (found : Begun) → token x ≡ found → (ws : List Lexeme) → Spells (take_token go x found).1 ws → Spells x ((take_token go x found).0 ++ ws)
token_scanned go ih x None e ws s = s
token_scanned go ih x (Some p) e ws s = next e (ih p.1 ws s)

unit_scanned : (go : Text → Scanned) → IsScan go → (b : ℕ) (bs : Text) (v : Bool) → is_space4 b ≡ v → (ws : List Lexeme) → Spells (take_unit go b bs v).1 ws → Spells (b ∷ bs) ((take_unit go b bs v).0 ++ ws)
unit_scanned go ih b bs true e ws s = space e (ih bs ws s)
unit_scanned go ih b bs false e ws s = token_scanned go ih (b ∷ bs) (front (b ∷ bs)) (front_token (b ∷ bs)) ws s

scanned : (n : ℕ) → IsScan (scan n)
scanned zero x ws s = s
scanned (suc n) [] ws s = s
scanned (suc n) (b ∷ bs) ws s = unit_scanned (scan n) (scanned n) b bs (is_space4 b) refl ws s

-- ---- their terms

-- the terms of these tokens, in front of those of the tokens behind them
abbrev pub in_front : Bool → List Lexeme → List Term → List Term
in_front after [] us = us
in_front after (w ∷ ws) us = let found = term_of after w.kind w.text (next_kind ws) in found ∷ in_front (is_operand found) ws us

abbrev pub state_after : Bool → List Lexeme → Bool
state_after after [] = after
state_after after (w ∷ ws) = state_after (is_operand (term_of after w.kind w.text (next_kind ws))) ws

-- what the token is does not hang on the next one
abbrev pub is_sure : Bool → XKind → Bool
is_sure true kind = true
is_sure false k.Name = false
is_sure false _ = true

-- so it is for the last one
abbrev pub is_settled : Bool → List Lexeme → Bool
is_settled after [] = true
is_settled after (w ∷ []) = is_sure after w.kind
is_settled after (w ∷ (v ∷ ws)) = is_settled (is_operand (term_of after w.kind w.text (next_kind (v ∷ ws)))) (v ∷ ws)

sure_term : (after : Bool) (kind : XKind) (w : Text) (after_it : Option XKind) → is_sure after kind ≡ true → term_of after kind w after_it ≡ term_of after kind w None
sure_term true k.Name w v h = refl
sure_term false k.Name w v h = cc
sure_term true k.Star w v h = refl
sure_term false k.Star w v h = refl
sure_term after _ w v h = refl

front_terms : (after : Bool) (ws more : List Lexeme) → is_settled after ws ≡ true → terms_after after (ws ++ more) ≡ in_front after ws (terms_after (state_after after ws) more)
front_terms after [] more h = refl
front_terms after (w ∷ []) more h = ap (λ found. found ∷ terms_after (is_operand found) more) (sure_term after w.kind w.text (next_kind more) h)
front_terms after (w ∷ (v ∷ ws)) more h =
    let found : Term = term_of after w.kind w.text (next_kind (v ∷ ws)) in
    ap (λ ts. found ∷ ts) (front_terms (is_operand found) (v ∷ ws) more h)

front_append : (after : Bool) (ws : List Lexeme) (us : List Term) → in_front after ws us ≡ in_front after ws [] ++ us
front_append after [] us = refl
front_append after (w ∷ ws) us =
    let found : Term = term_of after w.kind w.text (next_kind ws) in ap (λ ts. found ∷ ts) (front_append (is_operand found) ws us)

any_append : (ts us : List Term) → list_any is_refused ts ≡ false → list_any is_refused us ≡ false → list_any is_refused (ts ++ us) ≡ false
any_append [] us h g = g
any_append (x ∷ ts) us h g = any_more (is_refused x) (list_any is_refused ts) (list_any is_refused (ts ++ us)) h (λ e. any_append ts us e g)
  where
    any_more : (b c d : Bool) → (b || c) ≡ false → (c ≡ false → d ≡ false) → (b || d) ≡ false
    any_more true c d h f = cc
    any_more false c d h f = f h

-- ---- their brackets

abbrev pub opened : XKind → ℕ → ℕ
opened k.OpenRound zero = zero
opened k.OpenRound (suc r) = r
opened k.OpenSquare zero = zero
opened k.OpenSquare (suc r) = r
opened k.CloseRound r = suc r
opened k.CloseSquare r = suc r
opened _ r = r

abbrev pub has_room : XKind → ℕ → Bool
has_room k.OpenRound zero = false
has_room k.OpenSquare zero = false
has_room _ r = true

abbrev pub room_left : List Lexeme → ℕ → ℕ
room_left [] r = r
room_left (w ∷ ws) r = room_left ws (opened w.kind r)

abbrev pub have_room : List Lexeme → ℕ → Bool
have_room [] r = true
have_room (w ∷ ws) r = has_room w.kind r && have_room ws (opened w.kind r)

on_room : (kind : XKind) (r : ℕ) (P : ℕ → Type 0) → has_room kind r ≡ true → P (opened kind r) → OnRoom (room_after kind r) P
on_room k.OpenRound zero P h p = cc
on_room k.OpenRound (suc r) P h p = p
on_room k.OpenSquare zero P h p = cc
on_room k.OpenSquare (suc r) P h p = p
on_room k.CloseRound r P h p = p
on_room k.CloseSquare r P h p = p
on_room _ r P h p = p

fits_front : (ws more : List Lexeme) (r : ℕ) → have_room ws r ≡ true → Fits more (room_left ws r) → Fits (ws ++ more) r
fits_front [] more r h f = f
fits_front (w ∷ ws) more r h f =
    let b = and_parts (has_room w.kind r) (have_room ws (opened w.kind r)) h in
    on_room w.kind r (Fits (ws ++ more)) b.0 (fits_front ws more (opened w.kind r) b.1 f)

-- ---- a fixed text

-- no name before such a token is that of an axis or a function
abbrev pub is_free : XKind → Bool
is_free k.DoubleColon = false
is_free k.OpenRound = false
is_free _ = true

free_name : (kind : XKind) (w : Text) → is_free kind ≡ true → name_term (Some kind) w ≡ t.Name (chars w)
free_name k.DoubleColon w h = cc
free_name k.OpenRound w h = cc
free_name _ w h = refl

-- it may stand behind an operand
abbrev pub starts : Bool → Text → List Lexeme → Bool
starts false x ws = true
starts true (b ∷ bs) (w ∷ ws) = (not (is_name_byte b) && not (b == 58)) && is_free w.kind
starts true _ _ = false

abbrev pub is_ready : Bool → ℕ → Text → List Lexeme → Bool
is_ready after r x ws = (is_settled after ws && have_room ws r) && (not (list_any is_refused (in_front after ws [])) && starts after x ws)

abbrev pub lexemes_of : Text → List Lexeme
lexemes_of x = (scan (units (length x) x) x).0

-- the tokens of the text end with it
abbrev pub IsFixed : Text → Type 0
IsFixed x = (rest : Text) → scan (units (length x) x) (x ++ rest) ≡ (lexemes_of x, rest)

spoken_of : {room : ℕ} {x : Text} {ts : List Term} (after : Bool) → Stands room after x ts → Spoken room after x ts
spoken_of true b = b.spoken
spoken_of false s = s

stands_of : (room : ℕ) (after : Bool) (x rest : Text) (ws more : List Lexeme) (ts : List Term) (s : Spoken room after (x ++ rest) ts)
    → s.lexemes ≡ ws ++ more → starts after x ws ≡ true → Stands room after (x ++ rest) ts
stands_of room false x rest ws more ts s e h = s
stands_of room true [] rest ws more ts s e h = cc
stands_of room true (b ∷ bs) rest [] more ts s e h = cc
stands_of room true (b ∷ bs) rest (w ∷ ws) more ts s e h =
    let p = and_parts (not (is_name_byte b) && not (b == 58)) (is_free w.kind) h in
    let q = and_parts (not (is_name_byte b)) (not (b == 58)) p.0 in
    record {
      spoken = s;
      apart = (not-true _ q.0, not-true _ q.1);
      free = λ v. ap (λ l. name_term (next_kind l) v) e ∙ free_name w.kind v p.1;
    }

scanned_puts : (r : ℕ) (after : Bool) (x rest : Text) (ws : List Lexeme) (us : List Term) (n : ℕ) → scan n (x ++ rest) ≡ (ws, rest) → is_ready after r x ws ≡ true
    → Spoken (room_left ws r) (state_after after ws) rest us → Stands r after (x ++ rest) (in_front after ws [] ++ us)
scanned_puts r after x rest ws us n e h s =
    let both = and_parts (is_settled after ws && have_room ws r) (not (list_any is_refused (in_front after ws [])) && starts after x ws) h in
    let two = and_parts (is_settled after ws) (have_room ws r) both.0 in
    let last = and_parts (not (list_any is_refused (in_front after ws []))) (starts after x ws) both.1 in
    let P : Scanned → Type 0 = λ z. Spells z.1 s.lexemes → Spells (x ++ rest) (z.0 ++ s.lexemes) in
    let spelled : Spells (x ++ rest) (ws ++ s.lexemes) = subst P e (scanned n (x ++ rest) s.lexemes) s.spelled in
    stands_of r after x rest ws s.lexemes (in_front after ws [] ++ us) (record {
      lexemes = ws ++ s.lexemes;
      spelled = spelled;
      terms_are = front_terms after ws s.lexemes two.0 ∙ ap (in_front after ws) s.terms_are ∙ front_append after ws us;
      accepted = any_append (in_front after ws []) us (not-true _ last.0) s.accepted;
      fits = fits_front ws s.lexemes r two.1 s.fits;
    }) refl last.1

pub fixed_puts : (r : ℕ) (after : Bool) (x : Text) → IsFixed x → is_ready after r x (lexemes_of x) ≡ true
    → Puts r after (room_left (lexemes_of x) r) (state_after after (lexemes_of x)) x (in_front after (lexemes_of x) [])
fixed_puts r after x f h rest us short b =
    scanned_puts r after x rest (lexemes_of x) us (units (length x) x) (f rest) h (spoken_of (state_after after (lexemes_of x)) b)

-- a text that stands in every printed text
abbrev pub fix : {r : ℕ} {after : Bool} (x : Text) → IsFixed x → is_ready after r x (lexemes_of x) ≡ true → Piece r after (room_left (lexemes_of x) r) (state_after after (lexemes_of x))
fix {r = r} {after = after} x f h = record { text = x; terms = in_front after (lexemes_of x) []; puts = fixed_puts r after x f h }

-- ---- choices, and other words for the same terms

pub choose_puts : (r : ℕ) (a : Bool) (r' : ℕ) (a' : Bool) (b : Bool) (x y : Text) (ts us : List Term) → (b ≡ true → Puts r a r' a' x ts) → (b ≡ false → Puts r a r' a' y us)
    → Puts r a r' a' (cond b x y) (cond b ts us)
choose_puts r a r' a' true x y ts us f g = f refl
choose_puts r a r' a' false x y ts us f g = g refl

pub nothing_puts : (r : ℕ) (a : Bool) → Puts r a r a [] []
nothing_puts r a rest us h b = b

-- the piece with other words for its terms
pub said : {r : ℕ} {a : Bool} {r' : ℕ} {a' : Bool} (p : Piece r a r' a') (us : List Term) → p.terms ≡ us → Puts r a r' a' p.text us
said {r = r} {a = a} {r' = r'} {a' = a'} p us e = subst (Puts r a r' a' p.text) e p.puts
