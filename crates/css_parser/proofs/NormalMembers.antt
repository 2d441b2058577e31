-- What stands in a choice is read of its signs, where each simple selector is: compounds, and lists of members.
use Rattle.std.proofs.Common.{◌≡◌, ◌≢◌, ℕ, ◌+◌, ◌<◌, Bool, false, List, [], ◌∷◌, ◌++◌, length, map, flat_map, sym, ◌∙◌, ap, subst, arith, append_assoc, length-append, inl, inr}
use Rattle.std.specs.Prelude.{◌==◌, Option, Some, None, All, is_none}
use Rattle.std.proofs.lemmas.List.Elements.{All-head, All-tail}
use Rattle.css_lexer.specs.declared.tokens.CssKind.TheVariants as kind
use Rattle.css_lexer.specs.declared.tokens.CssToken.{CssToken}
use Rattle.css_lexer.specs.Spelled.{Sign, Mark}
use Rattle.css_selectors.specs.declared.selector.Compound.{Compound, out-Compound}
use Rattle.css_selectors.specs.declared.selector.Link.{Link}
use Rattle.css_selectors.specs.declared.selector.Link.TheVariants as link
use Rattle.css_selectors.specs.declared.selector.Simple.{Simple}
use Rattle.css_selectors.specs.declared.selector.Test.TheViews as test_views
use Rattle.css_selectors.specs.WellMade.{innermost}
use Rattle.css_parser.specs.declared.pieces.Word.{Word}
use Rattle.css_parser.specs.declared.pieces.Form.{Form}
use Rattle.css_parser.specs.declared.pieces.Form.TheOpen as open_
use Rattle.css_parser.specs.declared.pieces.Form.TheViews as views
use Rattle.css_parser.specs.declared.pieces.Inner.{Inner}
use Rattle.css_parser.specs.declared.pieces.InnerRead.{InnerRead}
use Rattle.css_parser.specs.declared.pieces.InnersRead.{InnersRead}
use Rattle.css_parser.specs.declared.pieces.Member.{Member, out-Member}
use Rattle.css_parser.specs.declared.pieces.ListRead.{ListRead}
use Rattle.css_parser.specs.Places.{code_at, stands, skip}
use Rattle.css_parser.specs.Choices.{is_has, member_of, inner_at, member_at, members, simple_by}
use Rattle.css_parser.specs.Normal.{element_signs, listed, compound_signs, simple_signs}
use Rattle.css_parser.specs.Refusals.{or_else, inners_refusal, member_refusal}
use Rattle.css_parser.specs.Values.{alone_of, inner_value, member_value, compound_of, compounds_in}
use Rattle.css_parser.proofs.MemberLemmas.{IsListUpTo, list_last, list_more, member_other}
use Rattle.css_parser.proofs.NormalForms.{Around, IsStop, Says, SaysForms, forms_say, SaysInner, inner_says}
use Rattle.css_parser.proofs.NormalLinks.{element_length, IsNext, next_stops, next_skip}
use Rattle.css_parser.proofs.NormalPlaces.{AreAt, code_is, at_within, moved, halves}
use Rattle.css_parser.proofs.NormalSigns as signs
use Rattle.css_parser.proofs.NormalSigns.{body}
use Rattle.css_parser.proofs.RefusalLemmas.{member_is}
use Rattle.css_parser.proofs.ValueLemmas as values

-- each of these is given by one of those
abbrev pub AllGiven : (X : Type 0) → (X → Member → Type 0) → List X → List Member → Type 0
AllGiven X Good [] [] = Unit {0}
AllGiven X Good [] (m ∷ ms) = ⊥
AllGiven X Good (x ∷ xs) [] = ⊥
AllGiven X Good (x ∷ xs) (m ∷ ms) = Good x m × AllGiven X Good xs ms

pub parts_in : (xs : List Inner) → (out-Member (member_of xs)).parts ≡ xs
parts_in xs = ap (λ (d : open_.Member-F Form Inner Member). d.parts) (views.out-roll-Member (record { parts = xs }))

-- The member is the compound, and nothing of it is refused. Where it has simple selectors, it is negated as a choice.
abbrev pub GivesCompound : Around → Compound → Member → Type 0
GivesCompound around c m = (compounds_in m ≡ c ∷ []) × (member_refusal (is_none around) m ≡ None) × ((out-Compound c).simples ≢ [] → alone_of (member_value m) ≡ None)

module _ (text : List ℕ) (ts : List CssToken) (no_bar : (i : ℕ) → stands kind.Bar ts i ≡ false) where
  module _ (n : ℕ) (within : Bool) (Fits : Around → Simple → Type 0)
      (says : (around : Around) (k : ℕ) (x : Simple) → Fits around x → AreAt text ts k (simple_signs x) → Says text ts no_bar n within around k x (k + length (simple_signs x))) where
    pub body_says : (l : Link) (around : Around) (i : ℕ) (e : Around) (xs : List Simple) → All (Fits (innermost around e)) xs → AreAt text ts i (body e xs) → IsStop text ts no_bar (i + length (body e xs)) → SaysInner text ts no_bar n within l around i e xs (i + length (body e xs))
    body_says l around i e xs h at stop =
        let parts = halves text ts i (element_signs e) (flat_map simple_signs xs) at in
        let there = moved text ts (i + length (element_signs e)) (i + 1) (flat_map simple_signs xs) (omega (arith, element_length e)) parts.1 in
        let end : i + 1 + length (flat_map simple_signs xs) ≡ i + length (body e xs) = omega (arith, length-append (element_signs e) (flat_map simple_signs xs), element_length e) in
        let forms = forms_say text ts no_bar n within (innermost around e) (Fits (innermost around e)) (says (innermost around e)) (i + 1) xs h there in
        inner_says text ts no_bar n within l around i e xs (i + length (body e xs)) parts.0
        (subst (λ m. SaysForms text ts no_bar n within (innermost around e) (i + 1) xs m) end forms) (omega arith) stop

    -- ---- members

    pub record SaysMember (w : Word) (i j : ℕ) (Good : Member → Type 0) : Type 0 where
      pub inners : List Inner
      pub read : member_at text ts (simple_by text ts n within) w i ≡ Some (record { inners = inners; end = j })
      pub good : Good (member_of inners)

    pub compound_says : (w : Word) → is_has w ≡ false → (around : Around) (i : ℕ) (c : Compound) → All (Fits (innermost around (out-Compound c).element)) (out-Compound c).simples → AreAt text ts i (compound_signs c) → IsNext text ts no_bar (i + length (compound_signs c))
        → SaysMember w i (i + length (compound_signs c)) (GivesCompound around c)
    compound_says w plain around i c h at next =
        let e = (out-Compound c).element in
        let xs = (out-Compound c).simples in
        let said : compound_signs c ≡ body e xs = signs.compound_is c in
        let there : AreAt text ts i (body e xs) = subst (AreAt text ts i) said at in
        let inner = body_says link.First around i e xs h there (next_stops text ts no_bar (i + length (body e xs)) (subst (λ ss. IsNext text ts no_bar (i + length ss)) said next)) in
        let r : InnerRead = record { inner = inner.inner; end = i + length (compound_signs c) } in
        let reads : inner_at text ts (simple_by text ts n within) link.First i ≡ Some r = inner.read ∙ ap (λ (ss : List Sign). Some (to inner.inner (i + length ss))) (sym said) in
        let m : Member = member_of (inner.inner ∷ []) in
        record {
          inners = inner.inner ∷ [];
          read = member_other text ts (simple_by text ts n within) w i r plain reads;
          good = (
            values.compounds_in_is m ∙ ap (map compound_of) (parts_in (inner.inner ∷ [])) ∙ ap (λ x. x ∷ []) (inner.compound ∙ test_views.roll-out-Compound c),
            member_is (is_none around) m ∙ ap (inners_refusal (is_none around)) (parts_in (inner.inner ∷ [])) ∙ ap (λ o. or_else o None) inner.allowed,
            λ some. ap alone_of (values.member_is m ∙ ap (map inner_value) (parts_in (inner.inner ∷ []))) ∙ inner.more some,
          );
        }
      where
        to : Inner → ℕ → InnerRead
        to x k = record { inner = x; end = k }

    -- ---- lists of members

    pub record SaysMembers (w : Word) (from : ℕ) (done : List Member) (X : Type 0) (Good : X → Member → Type 0) (xs : List X) (j : ℕ) : Type 0 where
      pub found : List Member
      pub read : members text ts (simple_by text ts n within) w from ≡ Some (record { list = done ++ found; end = j })
      pub given : AllGiven X Good xs found

    module _ (X : Type 0) (w : Word) (from : ℕ) (sig : X → List Sign) (IsFit : X → Type 0) (Good : X → Member → Type 0)
        (some : (x : X) → IsFit x → 0 < length (sig x))
        (starts : (k : ℕ) (x : X) → IsFit x → AreAt text ts k (sig x) → skip ts k ≡ k)
        (member : (k : ℕ) (x : X) → IsFit x → AreAt text ts k (sig x) → IsNext text ts no_bar (k + length (sig x)) → SaysMember w k (k + length (sig x)) (Good x)) where
      list_to : List Member → ℕ → Option ListRead
      list_to ms m = Some (record { list = ms; end = m })

      to : List Inner → ℕ → InnersRead
      to xs m = record { inners = xs; end = m }

      pub members_say : (done : List Member) (i : ℕ) (x : X) (xs : List X) → All IsFit (x ∷ xs) → IsListUpTo text ts (simple_by text ts n within) w from done i → AreAt text ts i (listed (map sig (x ∷ xs)) ++ Mark kind.CloseRound ∷ [])
          → SaysMembers w from done X Good (x ∷ xs) (i + length (listed (map sig (x ∷ xs))) + 1)
      unfolding list_to to
      members_say done i x [] h up at =
          let f = simple_by text ts n within in
          let fit = All-head IsFit x [] h in
          let parts = halves text ts i (sig x) (Mark kind.CloseRound ∷ []) at in
          let j = i + length (sig x) in
          let c : code_at ts j ≡ 18 = code_is text ts j (Mark kind.CloseRound) parts.1.0 in
          let inside = at_within text ts j (Mark kind.CloseRound) parts.1.0 in
          let one = member i x fit parts.0 (inl c) in
          let here : skip ts j ≡ j = next_skip text ts no_bar j (inl c) in
          record {
            found = member_of one.inners ∷ [];
            read = list_last text ts f w from done i (to one.inners j) up (omega arith)
                (ap (member_at text ts f w) (starts i x fit parts.0) ∙ one.read)
                (ap (stands kind.CloseRound ts) here ∙ ap (λ n. n == 18) c)
                ∙ ap (λ m. list_to (done ++ member_of one.inners ∷ []) (m + 1)) here;
            given = (one.good, tt);
          }
      members_say done i x (y ∷ ys) h up at =
          let f = simple_by text ts n within in
          let fit = All-head IsFit x (y ∷ ys) h in
          let more : List Sign = listed (map sig (y ∷ ys)) in
          let cut : AreAt text ts i (sig x ++ (Mark kind.Comma ∷ (more ++ Mark kind.CloseRound ∷ []))) = subst (AreAt text ts i) (append_assoc (sig x) (Mark kind.Comma ∷ more) (Mark kind.CloseRound ∷ [])) at in
          let parts = halves text ts i (sig x) (Mark kind.Comma ∷ (more ++ Mark kind.CloseRound ∷ [])) cut in
          let j = i + length (sig x) in
          let c : code_at ts j ≡ 19 = code_is text ts j (Mark kind.Comma) parts.1.0 in
          let inside = at_within text ts j (Mark kind.Comma) parts.1.0 in
          let moves = some x fit in
          let one = member i x fit parts.0 (inr c) in
          let here : skip ts j ≡ j = next_skip text ts no_bar j (inr c) in
          let next = list_more text ts f w from done i (to one.inners j) up (omega arith) (omega arith)
          (ap (member_at text ts f w) (starts i x fit parts.0) ∙ one.read)
          (ap (stands kind.Comma ts) here ∙ ap (λ n. n == 19) c) in
          let rest = members_say (done ++ member_of one.inners ∷ []) (j + 1) y ys (All-tail IsFit x (y ∷ ys) h)
          (subst (λ m. IsListUpTo text ts f w from (done ++ member_of one.inners ∷ []) (m + 1)) here next) parts.1.1 in
          record {
            found = member_of one.inners ∷ rest.found;
            read = rest.read ∙ ap (λ ms. list_to ms (j + 1 + length more + 1)) (append_assoc done (member_of one.inners ∷ []) rest.found)
                ∙ ap (list_to (done ++ member_of one.inners ∷ rest.found)) (let z : j + 1 + length more + 1 ≡ i + length (listed (map sig (x ∷ y ∷ ys))) + 1 = omega (arith, length-append (sig x) (Mark kind.Comma ∷ more)) in z);
            given = (one.good, rest.given);
          }
