-- A tree as it is written out, and that its tokens are those of its marks.
use Rattle.std.proofs.Common.{◌≡◌, ℕ, ◌+◌, List, [], ◌∷◌, ◌++◌, map, length, drop, Bool, true, false, ◌&&◌, ◌||◌, cond, sym, refl, ◌∙◌, ap, subst, arith, append_assoc, append-nil, length-append, inr}
use Rattle.std.specs.Prelude.{not, codes, ◌==◌}
use Rattle.std.specs.Str.{IsUtf8, str_to_ascii_lowercase}
use Rattle.std.specs.List.{AllPass}
use Rattle.text_base.specs.Text.{is_letter}
use Rattle.html_lexer.specs.Names.{is_raw, is_escapable, closes, literal_names, escapable_names}
use Rattle.html_lexer.specs.Steps.{opens}
use Rattle.html_lexer.specs.TokenLaws.{IsTagName, written}
use Rattle.html_lexer.proofs.WrittenLemmas.{below}
use Rattle.html_lexer.proofs.BackLemmas.{plain_end, IsNext, raw_over, closes_itself}
use Rattle.html_lexer.proofs.RestLemmas.{rest_past}
use Rattle.html_reader.specs.Tokens.{text, comment, doctype, Tok, ends, holds, token}
use Rattle.html_reader.specs.Forest.{Forest, nothing, then_leaf, then_element, marks, close_of}
use Rattle.html_reader.specs.Tables.{is_void}
use Rattle.html_reader.specs.Contents.{newline_names, takes_newline}
use Rattle.html_reader.specs.Words.{tokens_of}
use Rattle.html_reader.proofs.PageLemmas.{tokens_of-append}
use Rattle.html_reader.proofs.InkParts.{ink_text, ink_pair, ink_tag, end_ink, newline, is_literal, ink_content, Spelled, IsInkTag, tag_spelled, end_spelled, IsInkComment, comment_spelled, text_spelled, IsRawText, raw_spelled}

-- the tree, directly after a start tag of this name or, where the name is [], after another token
abbrev pub ink : List ℕ → Forest → List ℕ
ink before nothing = []
ink before (then_leaf (text s) rest) = ink_content before s ++ ink [] rest
ink before (then_leaf (comment s) rest) = codes "<!--" ++ (s ++ (codes "-->" ++ ink [] rest))
ink before (then_leaf doctype rest) = ink before rest
ink before (then_element tag inside inserted rest) = ink_tag tag ++ (cond (is_void tag.name) [] (ink tag.name inside ++ end_ink tag.name) ++ ink [] rest)

-- what can be written
abbrev pub NotText : Forest → Type 0
NotText nothing = Unit {0}
NotText (then_leaf (text s) rest) = ⊥
NotText (then_leaf (comment s) rest) = Unit {0}
NotText (then_leaf doctype rest) = ⊥
NotText (then_element tag inside inserted rest) = Unit {0}

abbrev pub IsRawInside : List ℕ → Forest → Type 0
IsRawInside name nothing = Unit {0}
IsRawInside name (then_leaf (text []) rest) = ⊥
IsRawInside name (then_leaf (text (c ∷ cs)) rest) = IsUtf8 (c ∷ cs) × IsRawText name (c ∷ cs) × (rest ≡ nothing)
IsRawInside name (then_leaf (comment s) rest) = ⊥
IsRawInside name (then_leaf doctype rest) = ⊥
IsRawInside name (then_element tag inside inserted rest) = ⊥

abbrev pub Inside : Bool → Bool → List ℕ → Forest → Type 0 → Type 0
Inside true raw name inside other = (inside ≡ nothing) × (raw ≡ false) × (takes_newline name ≡ false)
Inside false true name inside other = AllPass is_letter name × IsRawInside name inside
Inside false false name inside other = other

abbrev pub IsInk : Forest → Type 0
IsInk nothing = Unit {0}
IsInk (then_leaf (text []) rest) = ⊥
IsInk (then_leaf (text (c ∷ cs)) rest) = IsUtf8 (c ∷ cs) × NotText rest × IsInk rest
IsInk (then_leaf (comment s) rest) = IsInkComment s × IsInk rest
IsInk (then_leaf doctype rest) = ⊥
IsInk (then_element tag inside inserted rest) = IsInkTag tag × (inserted ≡ is_void tag.name) × Inside (is_void tag.name) (is_raw tag.name) tag.name inside (IsInk inside) × IsInk rest

-- what follows a text begins markup
tag_opens : (name r : List ℕ) → IsTagName name → opens (60 ∷ (name ++ r)) ≡ true
tag_opens [] r h = let no = h.first in cc
tag_opens (c ∷ cs) r h = letter_opens c h.first
  where
    letter_opens : (c : ℕ) → is_letter c ≡ true → opens (60 ∷ (c ∷ (cs ++ r))) ≡ true
    letter_opens c l = ap (λ b. ((b || (c == 47)) || (c == 33)) || (c == 63)) l

next_of : (g : Forest) (y : List ℕ) → NotText g → IsInk g → IsNext y → IsNext (ink [] g ++ y)
next_of nothing y n h next = next
next_of (then_leaf (text s) rest) y n h next = absurd n
next_of (then_leaf (comment s) rest) y n h next = inr refl
next_of (then_leaf doctype rest) y n h next = absurd n
next_of (then_element tag inside inserted rest) y n h next =
    inr (ap (λ q. opens (60 ∷ q)) (append_assoc (tag.name ++ (written (map ink_pair tag.attrs) ++ codes ">")) _ y ∙ append_assoc tag.name (written (map ink_pair tag.attrs) ++ codes ">") _) ∙ tag_opens tag.name _ h.0.0)

pub raw_none : is_raw [] ≡ false
unfolding literal_names escapable_names
raw_none = refl

takes_none : takes_newline [] ≡ false
unfolding newline_names
takes_none = refl

pub literal_none : is_literal [] ≡ false
literal_none = ap (λ b. b && not (is_escapable [])) raw_none

not_literal : (name : List ℕ) → is_raw name ≡ false → is_literal name ≡ false
not_literal name h = ap (λ b. b && not (is_escapable name)) h

-- where a list of the page ends
past_list : (page : List ℕ) (i : ℕ) (x y : List ℕ) → drop i page ≡ x ++ y → drop (i + length x) page ≡ y
past_list page i x y h = rest_past page i (i + length x) x y refl h

-- a raw element's content and its end tag
raw_element : (f : Forest) (page name : List ℕ) (k j : ℕ) (z : List ℕ) (ts : List Tok) → IsTagName name → str_to_ascii_lowercase name ≡ name → is_raw name ≡ true → AllPass is_letter name → IsRawInside name f → drop k page ≡ ink name f ++ (end_ink name ++ z)
    → Spelled page [] (k + length (ink name f) + length (end_ink name)) j ts → Spelled page name k j (tokens_of (marks f) ++ (ends name ∷ ts))
raw_element nothing page name k j z ts ok low raw letters h front more =
    let front1 : drop k page ≡ codes "</" ++ (name ++ 62 ∷ z) = front ∙ ap (λ q. 60 ∷ (47 ∷ q)) (append_assoc name (codes ">") z) in
    end_spelled page name name k j z ts (raw_over page k name raw (below page k 60 (47 ∷ (name ++ 62 ∷ z)) front1) (ap (closes name) front1 ∙ closes_itself name z)) ok low front
    (subst (λ n. Spelled page [] n j ts) (let e : k + 0 + length (end_ink name) ≡ k + length (end_ink name) = omega arith in e) more)
raw_element (then_leaf (text []) rest) page name k j z ts ok low raw letters h front more = absurd h
raw_element (then_leaf (text (c ∷ cs)) rest) page name k j z ts ok low raw letters h front more =
    let w = ink_content name (c ∷ cs) in
    let none : ink name (then_leaf (text (c ∷ cs)) rest) ≡ w = ap (λ f. w ++ ink [] f) h.2 ∙ append-nil w in
    let front1 : drop k page ≡ w ++ (end_ink name ++ z) = front ∙ ap (λ x. x ++ (end_ink name ++ z)) none in
    subst (λ f. Spelled page name k j (holds (text (c ∷ cs)) ∷ (tokens_of (marks f) ++ (ends name ∷ ts)))) (sym h.2)
    (raw_spelled page name c cs k j z (ends name ∷ ts) raw letters h.0 h.1 front1
    (end_spelled page [] name (k + length w) j z ts (plain_end page [] (k + length w) raw_none) ok low (past_list page k w (end_ink name ++ z) front1)
    (subst (λ n. Spelled page [] (k + n + length (end_ink name)) j ts) (ap length none) more)))
raw_element (then_leaf (comment s) rest) page name k j z ts ok low raw letters h front more = absurd h
raw_element (then_leaf doctype rest) page name k j z ts ok low raw letters h front more = absurd h
raw_element (then_element tag inside inserted rest) page name k j z ts ok low raw letters h front more = absurd h

-- The tokens of what is written are those of the marks. After it the page goes on, after a token that begins no raw text.
pub ink_spelled : (f : Forest) (before p page : List ℕ) (i j : ℕ) (y : List ℕ) (ts : List Tok) → is_literal before ≡ false → is_raw p ≡ false → takes_newline p ≡ takes_newline before → IsInk f → IsNext y → drop i page ≡ ink before f ++ y
    → ((q : List ℕ) → is_raw q ≡ false → Spelled page q (i + length (ink before f)) j ts) → Spelled page p i j (tokens_of (marks f) ++ ts)
ink_spelled nothing before p page i j y ts lit raw takes h next front more = subst (λ k. Spelled page p k j ts) (let e : i + 0 ≡ i = omega arith in e) (more p raw)
ink_spelled (then_leaf (text []) rest) before p page i j y ts lit raw takes h next front more = absurd h
ink_spelled (then_leaf (text (c ∷ cs)) rest) before p page i j y ts lit raw takes h next front more =
    let w = newline (takes_newline p) (c ∷ cs) ++ ink_text false (c ∷ cs) in
    let r = ink [] rest in
    let same : ink_content before (c ∷ cs) ≡ w = ap (λ b. cond b (c ∷ cs) (newline (takes_newline before) (c ∷ cs) ++ ink_text false (c ∷ cs))) lit ∙ ap (λ b. newline b (c ∷ cs) ++ ink_text false (c ∷ cs)) (sym takes) in
    let front1 : drop i page ≡ w ++ (r ++ y) = front ∙ ap (λ x. (x ++ r) ++ y) same ∙ append_assoc w r y in
    text_spelled page p c cs i j (r ++ y) (tokens_of (marks rest) ++ ts) raw h.0 front1 (next_of rest y h.1 h.2 next)
    (ink_spelled rest [] [] page (i + length w) j y ts literal_none raw_none refl h.2 next (past_list page i w (r ++ y) front1)
    (λ q raw'. subst (λ k. Spelled page q k j ts) (let e : i + length (ink_content before (c ∷ cs) ++ r) ≡ i + length w + length r = omega (arith, length-append (ink_content before (c ∷ cs)) r, ap length same) in e) (more q raw')))
ink_spelled (then_leaf (comment s) rest) before p page i j y ts lit raw takes h next front more =
    let r = ink [] rest in
    let x = codes "<!--" ++ (s ++ codes "-->") in
    let front1 : drop i page ≡ codes "<!--" ++ (s ++ (codes "-->" ++ (r ++ y))) = front ∙ ap (λ z. codes "<!--" ++ z) (append_assoc s (codes "-->" ++ r) y) in
    let front2 : drop i page ≡ x ++ (r ++ y) = front1 ∙ ap (λ z. codes "<!--" ++ z) (sym (append_assoc s (codes "-->") (r ++ y))) in
    let long : i + 4 + length s + 3 ≡ i + length x = omega (arith, length-append (codes "<!--") (s ++ codes "-->"), length-append s (codes "-->")) in
    let all : i + length (codes "<!--" ++ (s ++ (codes "-->" ++ r))) ≡ i + length x + length r = omega (arith, length-append (codes "<!--") (s ++ (codes "-->" ++ r)), length-append s (codes "-->" ++ r), length-append (codes "-->") r, length-append (codes "<!--") (s ++ codes "-->"), length-append s (codes "-->")) in
    comment_spelled page p s i j (r ++ y) (tokens_of (marks rest) ++ ts) raw h.0 front1
    (subst (λ k. Spelled page [] k j (tokens_of (marks rest) ++ ts)) (sym long)
    (ink_spelled rest [] [] page (i + length x) j y ts literal_none raw_none refl h.1 next (past_list page i x (r ++ y) front2) (λ q raw'. subst (λ k. Spelled page q k j ts) all (more q raw'))))
ink_spelled (then_leaf doctype rest) before p page i j y ts lit raw takes h next front more = absurd h
ink_spelled (then_element tag inside inserted rest) before p page i j y ts lit raw takes h next front more =
    let t = ink_tag tag in
    let m = cond (is_void tag.name) [] (ink tag.name inside ++ end_ink tag.name) in
    let r = ink [] rest in
    let front1 : drop i page ≡ t ++ (m ++ (r ++ y)) = front ∙ append_assoc t (m ++ r) y ∙ ap (λ z. t ++ z) (append_assoc m r y) in
    let at : drop (i + length t) page ≡ m ++ (r ++ y) = past_list page i t (m ++ (r ++ y)) front1 in
    let all : i + length (t ++ (m ++ r)) ≡ i + length t + length m + length r = omega (arith, length-append t (m ++ r), length-append m r) in
    tag_spelled page p tag i j (m ++ (r ++ y)) (tokens_of (marks inside ++ (close_of tag inserted ∷ marks rest)) ++ ts) raw h.0 front1
    (by_kind (i + length t) (is_void tag.name) refl (is_raw tag.name) refl h.2 at (λ q raw'. subst (λ k. Spelled page q k j ts) all (more q raw'))
    (λ k q raw' takes' front' more'. ink_spelled rest [] q page k j y ts literal_none raw' (takes' ∙ sym takes_none) h.3 next front' more')
    (λ k ok raw' front' more'. ink_spelled inside tag.name tag.name page k j (end_ink tag.name ++ (r ++ y)) (ends tag.name ∷ (tokens_of (marks rest) ++ ts)) (not_literal tag.name raw') raw' refl ok (inr refl) front' more'))
  where
    by_kind : (k : ℕ) (void : Bool) → is_void tag.name ≡ void → (israw : Bool) → is_raw tag.name ≡ israw → Inside (is_void tag.name) (is_raw tag.name) tag.name inside (IsInk inside)
        → drop k page ≡ cond (is_void tag.name) [] (ink tag.name inside ++ end_ink tag.name) ++ (ink [] rest ++ y)
        → ((q : List ℕ) → is_raw q ≡ false → Spelled page q (k + length (cond (is_void tag.name) [] (ink tag.name inside ++ end_ink tag.name)) + length (ink [] rest)) j ts)
        → ((l : ℕ) (q : List ℕ) → is_raw q ≡ false → takes_newline q ≡ false → drop l page ≡ ink [] rest ++ y → ((o : List ℕ) → is_raw o ≡ false → Spelled page o (l + length (ink [] rest)) j ts) → Spelled page q l j (tokens_of (marks rest) ++ ts))
        → ((l : ℕ) → IsInk inside → is_raw tag.name ≡ false → drop l page ≡ ink tag.name inside ++ (end_ink tag.name ++ (ink [] rest ++ y)) → ((o : List ℕ) → is_raw o ≡ false → Spelled page o (l + length (ink tag.name inside)) j (ends tag.name ∷ (tokens_of (marks rest) ++ ts))) → Spelled page tag.name l j (tokens_of (marks inside) ++ (ends tag.name ∷ (tokens_of (marks rest) ++ ts))))
        → Spelled page tag.name k j (tokens_of (marks inside ++ (close_of tag inserted ∷ marks rest)) ++ ts)
    by_kind k true is israw same ok at more later inner =
        let facts = subst (λ v. Inside v (is_raw tag.name) tag.name inside (IsInk inside)) is ok in
        let z = ink [] rest ++ y in
        let at1 : drop k page ≡ z = at ∙ ap (λ v. cond v [] (ink tag.name inside ++ end_ink tag.name) ++ z) is in
        let none : length (cond (is_void tag.name) [] (ink tag.name inside ++ end_ink tag.name)) ≡ 0 = ap (λ v. length (cond v [] (ink tag.name inside ++ end_ink tag.name))) is in
        subst (λ f. Spelled page tag.name k j (tokens_of (marks f ++ (close_of tag inserted ∷ marks rest)) ++ ts)) (sym facts.0)
        (subst (λ b. Spelled page tag.name k j (tokens_of (close_of tag b ∷ marks rest) ++ ts)) (sym (h.1 ∙ is))
        (later k tag.name facts.1 facts.2 at1 (λ o r. subst (λ n. Spelled page o n j ts) (let e : k + length (cond (is_void tag.name) [] (ink tag.name inside ++ end_ink tag.name)) + length (ink [] rest) ≡ k + length (ink [] rest) = omega (arith, none) in e) (more o r))))
    by_kind k false is israw same ok at more later inner =
        let z = ink [] rest ++ y in
        let body = ink tag.name inside in
        let tail = end_ink tag.name in
        let at1 : drop k page ≡ body ++ (tail ++ z) = at ∙ ap (λ v. cond v [] (body ++ tail) ++ z) is ∙ append_assoc body tail z in
        let long : length (cond (is_void tag.name) [] (body ++ tail)) ≡ length body + length tail = ap (λ v. length (cond v [] (body ++ tail))) is ∙ length-append body tail in
        let at2 : drop (k + length body) page ≡ tail ++ z = past_list page k body (tail ++ z) at1 in
        let at3 : drop (k + length body + length tail) page ≡ z = past_list page (k + length body) tail z at2 in
        let after : Spelled page [] (k + length body + length tail) j (tokens_of (marks rest) ++ ts) =
        later (k + length body + length tail) [] raw_none takes_none at3 (λ o r. subst (λ n. Spelled page o n j ts) (let e : k + length (cond (is_void tag.name) [] (body ++ tail)) + length (ink [] rest) ≡ k + length body + length tail + length (ink [] rest) = omega (arith, long) in e) (more o r)) in
        let shape : tokens_of (marks inside) ++ (ends tag.name ∷ (tokens_of (marks rest) ++ ts)) ≡ tokens_of (marks inside ++ (close_of tag inserted ∷ marks rest)) ++ ts =
        sym (ap (λ b. tokens_of (marks inside ++ (close_of tag b ∷ marks rest)) ++ ts) (h.1 ∙ is) ∙ ap (λ x. x ++ ts) (tokens_of-append (marks inside) (token (ends tag.name) ∷ marks rest)) ∙ append_assoc (tokens_of (marks inside)) (ends tag.name ∷ tokens_of (marks rest)) ts) in
        subst (λ us. Spelled page tag.name k j us) shape
        (by_raw israw same (subst (λ v. Inside v (is_raw tag.name) tag.name inside (IsInk inside)) is ok) after)
      where
        by_raw : (r : Bool) → is_raw tag.name ≡ r → Inside false (is_raw tag.name) tag.name inside (IsInk inside) → Spelled page [] (k + length (ink tag.name inside) + length (end_ink tag.name)) j (tokens_of (marks rest) ++ ts)
            → Spelled page tag.name k j (tokens_of (marks inside) ++ (ends tag.name ∷ (tokens_of (marks rest) ++ ts)))
        by_raw true r ok after =
            let facts = subst (λ v. Inside false v tag.name inside (IsInk inside)) r ok in
            raw_element inside page tag.name k j (ink [] rest ++ y) (tokens_of (marks rest) ++ ts) h.0.0 h.0.1 r facts.0 facts.1 (at ∙ ap (λ v. cond v [] (ink tag.name inside ++ end_ink tag.name) ++ (ink [] rest ++ y)) is ∙ append_assoc (ink tag.name inside) (end_ink tag.name) (ink [] rest ++ y)) after
        by_raw false r ok after =
            let facts = subst (λ v. Inside false v tag.name inside (IsInk inside)) r ok in
            let at1 : drop k page ≡ ink tag.name inside ++ (end_ink tag.name ++ (ink [] rest ++ y)) = at ∙ ap (λ v. cond v [] (ink tag.name inside ++ end_ink tag.name) ++ (ink [] rest ++ y)) is ∙ append_assoc (ink tag.name inside) (end_ink tag.name) (ink [] rest ++ y) in
            inner k facts r at1
            (λ q raw'. end_spelled page q tag.name (k + length (ink tag.name inside)) j (ink [] rest ++ y) (tokens_of (marks rest) ++ ts) (plain_end page q (k + length (ink tag.name inside)) raw') h.0.0 h.0.1 (past_list page k (ink tag.name inside) (end_ink tag.name ++ (ink [] rest ++ y)) at1) after)
