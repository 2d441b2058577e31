use Rattle.std.proofs.Common.{◌≡◌, ◌+◌, ◌^◌, ◌<◌, List, ℕ, [], ◌∷◌, length, refl, sym, ◌∙◌, ap, subst, arith, rules, Result, Ok, Err}
use Rattle.std.specs.Prelude.{IfOk}
use Rattle.std.specs.Str.{chars}
use Rattle.doc_model.specs.Growing.{Growing, fresh, with_element, with_attr, with_text, with_comment, with_close, AwaitsAttr, AwaitsText}
use Rattle.doc_model.proofs.Awaits.{awaits_first_attr, awaits_text}
use Rattle.doc_model.proofs.Grown.{grown_fresh}
use Rattle.doc_model.proofs.laws.build_worked.Goals as goal

-- the characters of `p`, `c`, `x`, `ab`, `k`, `q` and `z`
chars_p : chars (112 ∷ []) ≡ 112 ∷ []
unfolding chars
chars_p = refl

chars_c : chars (99 ∷ []) ≡ 99 ∷ []
unfolding chars
chars_c = refl

chars_x : chars (120 ∷ []) ≡ 120 ∷ []
unfolding chars
chars_x = refl

chars_ab : chars (97 ∷ 98 ∷ []) ≡ 97 ∷ 98 ∷ []
unfolding chars
chars_ab = refl

chars_k : chars (107 ∷ []) ≡ 107 ∷ []
unfolding chars
chars_k = refl

chars_q : chars (113 ∷ []) ≡ 113 ∷ []
unfolding chars
chars_q = refl

chars_z : chars (122 ∷ []) ≡ 122 ∷ []
unfolding chars
chars_z = refl

some : (bytes : List ℕ) (c : ℕ) (cs : List ℕ) → chars bytes ≡ c ∷ cs → chars bytes ≡ [] → ⊥
some bytes c cs e h = cc

-- the document, call by call
abbrev after_p : Growing
after_p = with_element fresh (112 ∷ [])

abbrev after_c : Growing
after_c = with_attr after_p (99 ∷ []) (120 ∷ [])

abbrev after_ab : Growing
after_ab = with_text after_c (97 ∷ 98 ∷ [])

abbrev after_k : Growing
after_k = with_comment after_ab (107 ∷ [])

abbrev after_q : Growing
after_q = with_element after_k (113 ∷ [])

abbrev after_z : Growing
after_z = with_text after_q (122 ∷ [])

room : (g known : Growing) → g ≡ known → length known.rows + 1 < 2 ^ 32 → length g.rows + 1 < 2 ^ 32
room g known e h = subst (λ (s : Growing). length s.rows + 1 < 2 ^ 32) (sym e) h

text_room : (g known : Growing) → g ≡ known → AwaitsText known → length known.rows + 1 < 2 ^ 32 → AwaitsText g × (length g.rows + 1 < 2 ^ 32)
text_room g known e a h = (subst AwaitsText (sym e) a, room g known e h)

attr_room : (g known : Growing) (name wanted : List ℕ) → g ≡ known → name ≡ wanted → AwaitsAttr known wanted → length known.rows + 1 < 2 ^ 32 → AwaitsAttr g name × (length g.rows + 1 < 2 ^ 32)
attr_room g known name wanted e n a h = (subst (λ s. AwaitsAttr s name) (sym e) (subst (λ v. AwaitsAttr known v) (sym n) a), room g known e h)

along : {A E : Type 0} (P Q : A → Type 0) (r : Result A E) → ((a : A) → P a → Q a) → IfOk r P → IfOk r Q
along P Q (Ok a) f p = f a p
along P Q (Err e) f p = tt

pub element-requires : goal.element-requires
element-requires g c =
    let named : chars (112 ∷ []) ≡ [] → ⊥ = some (112 ∷ []) _ _ chars_p in
    let fits : length (g.G.Grow.growing c.args.grow).rows + 1 < 2 ^ 32 = room (g.G.Grow.growing c.args.grow) fresh c.requires (omega arith) in
    search rules

pub attr-requires : goal.attr-requires
attr-requires g c =
    let e = c.in_ok-element.ensures.ok ∙ (λ i. with_element (c.requires i) (chars_p i)) in
    let named : chars (99 ∷ []) ≡ [] → ⊥ = some (99 ∷ []) _ _ chars_c in
    let both = attr_room (g.G.Grow.growing c.element.new.self) after_p (chars (99 ∷ [])) (99 ∷ []) e chars_c (awaits_first_attr fresh (112 ∷ []) (99 ∷ []) grown_fresh) (omega arith) in
    let awaits : AwaitsAttr (g.G.Grow.growing c.element.new.self) (chars (99 ∷ [])) = both.0 in
    let fits : length (g.G.Grow.growing c.element.new.self).rows + 1 < 2 ^ 32 = both.1 in
    search rules

pub text-requires : goal.text-requires
text-requires g c =
    let e = c.in_ok-element.ensures.ok ∙ (λ i. with_element (c.requires i) (chars_p i)) in
    let f = c.in_ok-attr.ensures.ok ∙ (λ i. with_attr (e i) (chars_c i) (chars_x i)) in
    let named : chars (97 ∷ 98 ∷ []) ≡ [] → ⊥ = some (97 ∷ 98 ∷ []) _ _ chars_ab in
    let both = text_room (g.G.Grow.growing c.attr.new.self) after_c f (awaits_text after_c (λ h. cc) refl) (omega arith) in
    let awaits : AwaitsText (g.G.Grow.growing c.attr.new.self) = both.0 in
    let fits : length (g.G.Grow.growing c.attr.new.self).rows + 1 < 2 ^ 32 = both.1 in
    search rules

pub element-requires-2 : goal.element-requires-2
element-requires-2 g c =
    let e = c.in_ok-element.ensures.ok ∙ (λ i. with_element (c.requires i) (chars_p i)) in
    let f = c.in_ok-attr.ensures.ok ∙ (λ i. with_attr (e i) (chars_c i) (chars_x i)) in
    let h = c.in_ok-text.ensures.ok ∙ (λ i. with_text (f i) (chars_ab i)) in
    let k = c.in_ok-comment.ensures.ok ∙ (λ i. with_comment (h i) (chars_k i)) in
    let named : chars (113 ∷ []) ≡ [] → ⊥ = some (113 ∷ []) _ _ chars_q in
    let fits : length (g.G.Grow.growing c.comment.new.self).rows + 1 < 2 ^ 32 = room (g.G.Grow.growing c.comment.new.self) after_k k (omega arith) in
    search rules

pub text-requires-2 : goal.text-requires-2
text-requires-2 g c =
    let e = c.in_ok-element.ensures.ok ∙ (λ i. with_element (c.requires i) (chars_p i)) in
    let f = c.in_ok-attr.ensures.ok ∙ (λ i. with_attr (e i) (chars_c i) (chars_x i)) in
    let h = c.in_ok-text.ensures.ok ∙ (λ i. with_text (f i) (chars_ab i)) in
    let k = c.in_ok-comment.ensures.ok ∙ (λ i. with_comment (h i) (chars_k i)) in
    let q = c.in_ok-element-2.ensures.ok ∙ (λ i. with_element (k i) (chars_q i)) in
    let named : chars (122 ∷ []) ≡ [] → ⊥ = some (122 ∷ []) _ _ chars_z in
    let both = text_room (g.G.Grow.growing c.element-2.new.self) after_q q (awaits_text after_q (λ h. cc) refl) (omega arith) in
    let awaits : AwaitsText (g.G.Grow.growing c.element-2.new.self) = both.0 in
    let fits : length (g.G.Grow.growing c.element-2.new.self).rows + 1 < 2 ^ 32 = both.1 in
    search rules

pub returns : goal.returns
returns g c =
    let e = c.in_ok-element.ensures.ok ∙ (λ i. with_element (c.requires i) (chars_p i)) in
    let f = c.in_ok-attr.ensures.ok ∙ (λ i. with_attr (e i) (chars_c i) (chars_x i)) in
    let h = c.in_ok-text.ensures.ok ∙ (λ i. with_text (f i) (chars_ab i)) in
    let k = c.in_ok-comment.ensures.ok ∙ (λ i. with_comment (h i) (chars_k i)) in
    let q = c.in_ok-element-2.ensures.ok ∙ (λ i. with_element (k i) (chars_q i)) in
    let z = c.in_ok-text-2.ensures.ok ∙ (λ i. with_text (q i) (chars_z i)) in
    let end : g.G.Grow.growing c.close-2.new.self ≡ with_close (with_close after_z) = c.close-2.ensures ∙ ap with_close (c.close.ensures ∙ ap with_close z) in
    along _ _ c.finish.result (λ done s. s ∙ ap (λ (v : Growing). v.rows) end) c.finish.ensures
