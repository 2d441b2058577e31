-- Relatives are read of their signs, where each simple selector is.
use Rattle.std.proofs.Common.{◌≡◌, ◌≢◌, ℕ, ◌+◌, ◌<◌, Bool, true, false, List, [], ◌∷◌, ◌++◌, length, map, flat_map, refl, sym, ◌∙◌, ap, subst, arith, append_assoc, length-append}
use Rattle.std.specs.Prelude.{Some, None, All}
use Rattle.std.proofs.lemmas.List.Elements.{All-head, All-tail}
use Rattle.css_lexer.specs.declared.tokens.CssKind.TheVariants as kind
use Rattle.css_lexer.specs.declared.tokens.CssToken.{CssToken}
use Rattle.css_lexer.specs.Spelled.{Sign}
use Rattle.css_selectors.specs.declared.selector.Link.{Link}
use Rattle.css_selectors.specs.declared.selector.Link.TheVariants as link
use Rattle.css_selectors.specs.declared.selector.Part.{Part, out-Part}
use Rattle.css_selectors.specs.declared.selector.Relative.{Relative, out-Relative, roll-Relative}
use Rattle.css_selectors.specs.declared.selector.Simple.{Simple}
use Rattle.css_selectors.specs.declared.selector.Test.TheViews as test_views
use Rattle.css_selectors.specs.WellMade.{innermost}
use Rattle.css_parser.specs.declared.pieces.Word.TheVariants as word
use Rattle.css_parser.specs.declared.pieces.Inner.{Inner}
use Rattle.css_parser.specs.declared.pieces.InnerRead.{InnerRead}
use Rattle.css_parser.specs.declared.pieces.InnersRead.{InnersRead}
use Rattle.css_parser.specs.declared.pieces.LinkRead.{LinkRead}
use Rattle.css_parser.specs.declared.pieces.Member.{Member, out-Member}
use Rattle.css_parser.specs.Places.{stands, skip}
use Rattle.css_parser.specs.Links.{sign}
use Rattle.css_parser.specs.Choices.{member_of, inner_at, parts_from, simple_by}
use Rattle.css_parser.specs.Normal.{element_signs, link_signs, first_signs, chain_signs, path_signs, part_signs, relative_signs, simple_signs}
use Rattle.css_parser.specs.Refusals.{or_else, inners_refusal, member_refusal}
use Rattle.css_parser.specs.Values.{part_of, relative_of}
use Rattle.css_parser.specs.inner.Reading.{Parts}
use Rattle.css_parser.proofs.ChoiceLemmas.{by_ends}
use Rattle.css_parser.proofs.MemberLemmas.{member_has, after_link, no_link, parts_are}
use Rattle.css_parser.proofs.NormalForms.{Around, IsStop, Says, stop_within}
use Rattle.css_parser.proofs.NormalLinks.{element_length, link_read, IsNext, next_stops, next_no_link, element_code, sign_reads, combinator_reads, link_stops, first_skip}
use Rattle.css_parser.proofs.NormalMembers.{parts_in, body_says, SaysMember}
use Rattle.css_parser.proofs.NormalPlaces.{AreAt, halves}
use Rattle.css_parser.proofs.NormalSigns as signs
use Rattle.css_parser.proofs.NormalSigns.{part_body, further}
use Rattle.css_parser.proofs.RefusalLemmas.{member_is}
use Rattle.css_parser.proofs.ValueFits.{its_own}
use Rattle.css_parser.proofs.ValueLemmas as values

-- The member is the relative, and nothing of it is refused.
abbrev pub GivesRelative : Relative → Member → Type 0
GivesRelative r m = (relative_of m ≡ r) × (member_refusal true m ≡ None)

module _ (text : List ℕ) (ts : List CssToken) (no_bar : (i : ℕ) → stands kind.Bar ts i ≡ false) where
  module _ (n : ℕ) (within : Bool) (Fits : Around → Simple → Type 0)
      (says : (around : Around) (k : ℕ) (x : Simple) → Fits around x → AreAt text ts k (simple_signs x) → Says text ts no_bar n within around k x (k + length (simple_signs x))) where
    -- ---- the parts of a relative

    abbrev IsFurther : Part → Type 0
    IsFurther p = ((out-Part p).link ≢ link.First) × All (Fits (out-Part p).element) (out-Part p).simples

    stops_after : (ps : List Part) (j : ℕ) → All IsFurther ps → AreAt text ts j (flat_map further ps) → IsNext text ts no_bar (j + length (flat_map further ps)) → IsStop text ts no_bar j
    stops_after [] j h at next = next_stops text ts no_bar j (subst (IsNext text ts no_bar) (let z : j + 0 ≡ j = omega arith in z) next)
    stops_after (p ∷ ps) j h at next =
        link_stops text ts no_bar (out-Part p).link j (All-head IsFurther p ps h).0
        (halves text ts j (link_signs (out-Part p).link) (part_body p) (halves text ts j (further p) (flat_map further ps) at).0).0

    own_fits : (p : Part) → IsFurther p → All (Fits (innermost None (out-Part p).element)) (out-Part p).simples
    own_fits p h = subst (λ e. All (Fits e) (out-Part p).simples) (sym (its_own (out-Part p).element)) h.1

    record SaysParts (i : ℕ) (ps : List Part) (j : ℕ) : Type 0 where
      inners : List Inner
      reads : Parts text ts (simple_by text ts n within) i inners j
      parts : map part_of inners ≡ ps
      allowed : inners_refusal true inners ≡ None

    parts_say : (i : ℕ) (ps : List Part) → All IsFurther ps → AreAt text ts i (flat_map further ps) → IsNext text ts no_bar (i + length (flat_map further ps)) → SaysParts i ps (i + length (flat_map further ps))
    parts_say i [] h at next = record { inners = []; reads = (let z : i ≡ i + 0 = omega arith in z); parts = refl; allowed = refl }
    parts_say i (p ∷ ps) h at next =
        let l = (out-Part p).link in
        let e = (out-Part p).element in
        let here = All-head IsFurther p ps h in
        let later = All-tail IsFurther p ps h in
        let cut = halves text ts i (further p) (flat_map further ps) at in
        let front = halves text ts i (link_signs l) (part_body p) cut.0 in
        let k = i + length (link_signs l) in
        let j = i + length (further p) in
        let ends : k + length (part_body p) ≡ j = omega (arith, length-append (link_signs l) (part_body p)) in
        let total : j + length (flat_map further ps) ≡ i + length (flat_map further (p ∷ ps)) = omega (arith, length-append (further p) (flat_map further ps)) in
        let beyond : IsNext text ts no_bar (j + length (flat_map further ps)) = subst (IsNext text ts no_bar) (sym total) next in
        let stop : IsStop text ts no_bar j = stops_after ps j later cut.1 beyond in
        let first = element_code text ts no_bar k e (halves text ts k (element_signs e) (flat_map simple_signs (out-Part p).simples) front.1).0 in
        let inner = body_says text ts no_bar n within Fits says l None k e (out-Part p).simples (own_fits p here) front.1 (subst (IsStop text ts no_bar) (sym ends) stop) in
        let rest = parts_say j ps later cut.1 beyond in
        record {
          inners = inner.inner ∷ rest.inners;
          reads = (
            j,
            after_link text ts (simple_by text ts n within) i (link_read l k) (combinator_reads text ts no_bar l i here.0 front.0 first) ∙ inner.read ∙ ap (λ m. Some (inner_to inner.inner m)) ends,
            subst (λ m. Parts text ts (simple_by text ts n within) j rest.inners m) total rest.reads,
          );
          parts = ap (λ q. q ∷ map part_of rest.inners) (inner.part ∙ test_views.roll-out-Part p) ∙ ap (λ qs. p ∷ qs) rest.parts;
          allowed = ap (λ o. or_else o (inners_refusal true rest.inners)) inner.allowed ∙ rest.allowed;
        }
      where
        inner_to : Inner → ℕ → InnerRead
        inner_to x m = record { inner = x; end = m }

    -- ---- relatives

    path_says : (i : ℕ) (p : Part) (ps : List Part) → All IsFurther (p ∷ ps) → AreAt text ts i (first_signs (out-Part p).link ++ (part_body p ++ flat_map further ps)) → IsNext text ts no_bar (i + length (first_signs (out-Part p).link ++ (part_body p ++ flat_map further ps)))
        → SaysMember text ts no_bar n within Fits says word.Has i (i + length (first_signs (out-Part p).link ++ (part_body p ++ flat_map further ps))) (λ m. (map part_of (out-Member m).parts ≡ p ∷ ps) × (member_refusal true m ≡ None))
    path_says i p ps h at next =
        let f = simple_by text ts n within in
        let l = (out-Part p).link in
        let e = (out-Part p).element in
        let here = All-head IsFurther p ps h in
        let later = All-tail IsFurther p ps h in
        let cut = halves text ts i (first_signs l) (part_body p ++ flat_map further ps) at in
        let k = i + length (first_signs l) in
        let body_cut = halves text ts k (part_body p) (flat_map further ps) cut.1 in
        let j = k + length (part_body p) in
        let total : j + length (flat_map further ps) ≡ i + length (first_signs l ++ (part_body p ++ flat_map further ps)) =
        omega (arith, length-append (first_signs l) (part_body p ++ flat_map further ps), length-append (part_body p) (flat_map further ps)) in
        let beyond : IsNext text ts no_bar (j + length (flat_map further ps)) = subst (IsNext text ts no_bar) (sym total) next in
        let stop : IsStop text ts no_bar j = stops_after ps j later body_cut.1 beyond in
        let first = element_code text ts no_bar k e (halves text ts k (element_signs e) (flat_map simple_signs (out-Part p).simples) body_cut.0).0 in
        let inner = body_says text ts no_bar n within Fits says l None k e (out-Part p).simples (own_fits p here) body_cut.0 stop in
        let rest = parts_say j ps later body_cut.1 beyond in
        let end = j + length (flat_map further ps) in
        let signed : sign ts i ≡ link_read l k = sign_reads text ts no_bar l i here.0 cut.0 first in
        let r : InnerRead = record { inner = inner.inner; end = j } in
        let begins : inner_at text ts f (sign ts i).link (sign ts i).end ≡ Some r = ap (λ (s : LinkRead). inner_at text ts f s.link s.end) signed ∙ inner.read in
        let within_j = stop_within text ts no_bar j stop in
        let more : parts_from text ts f (length ts) j ≡ inners_to rest.inners end =
        parts_are text ts f (by_ends text ts n within) (length ts) j end rest.inners (omega arith) (omega arith) rest.reads (no_link text ts f end (next_no_link text ts no_bar end beyond)) in
        let all : List Inner = inner.inner ∷ rest.inners in
        record {
          inners = all;
          read = member_has text ts f word.Has i r refl begins ∙ ap (λ (x : InnersRead). Some (inners_to (inner.inner ∷ x.inners) x.end)) more ∙ ap (λ m. Some (inners_to all m)) total;
          good = (
            ap (map part_of) (parts_in all) ∙ ap (λ q. q ∷ map part_of rest.inners) (inner.part ∙ test_views.roll-out-Part p) ∙ ap (λ qs. p ∷ qs) rest.parts,
            member_is true (member_of all) ∙ ap (inners_refusal true) (parts_in all) ∙ ap (λ o. or_else o (inners_refusal true rest.inners)) inner.allowed ∙ rest.allowed,
          );
        }
      where
        inners_to : List Inner → ℕ → InnersRead
        inners_to xs m = record { inners = xs; end = m }

    abbrev pub IsFitRelative : Relative → Type 0
    IsFitRelative r = (0 < length (out-Relative r).parts) × All IsFurther (out-Relative r).parts

    path_is : (p : Part) (ps : List Part) → path_signs (map part_signs (p ∷ ps)) ≡ first_signs (out-Part p).link ++ (part_body p ++ flat_map further ps)
    path_is p ps =
        ap (λ (d : Link × List Sign). first_signs d.0 ++ (d.1 ++ chain_signs (map part_signs ps))) (signs.part_is p)
        ∙ ap (λ ss. first_signs (out-Part p).link ++ (part_body p ++ ss)) (signs.chain_is ps)

    rolled : List Part → Relative
    rolled ps = roll-Relative (record { parts = ps })

    pub relative_says : (i : ℕ) (r : Relative) → IsFitRelative r → AreAt text ts i (relative_signs r) → IsNext text ts no_bar (i + length (relative_signs r)) → SaysMember text ts no_bar n within Fits says word.Has i (i + length (relative_signs r)) (GivesRelative r)
    unfolding rolled
    relative_says i r h at next = by_parts (out-Relative r).parts refl h.0 h.1
      where
        inners_to : List Inner → ℕ → InnersRead
        inners_to xs m = record { inners = xs; end = m }

        by_parts : (ps : List Part) → (out-Relative r).parts ≡ ps → 0 < length ps → All IsFurther ps → SaysMember text ts no_bar n within Fits says word.Has i (i + length (relative_signs r)) (GivesRelative r)
        by_parts [] e some fits = absurd (omega arith)
        by_parts (p ∷ ps) e some fits =
            let said : relative_signs r ≡ first_signs (out-Part p).link ++ (part_body p ++ flat_map further ps) = signs.relative_is r ∙ ap (λ qs. path_signs (map part_signs qs)) e ∙ path_is p ps in
            let path = path_says i p ps fits (subst (AreAt text ts i) said at) (subst (λ ss. IsNext text ts no_bar (i + length ss)) said next) in
            record {
              inners = path.inners;
              read = path.read ∙ ap (λ (ss : List Sign). Some (inners_to path.inners (i + length ss))) (sym said);
              good = (
                values.relative_is (member_of path.inners) ∙ ap rolled (path.good.0 ∙ sym e) ∙ test_views.roll-out-Relative r,
                path.good.1,
              );
            }

    pub relative_some : (r : Relative) → IsFitRelative r → 0 < length (relative_signs r)
    relative_some r h = by_parts (out-Relative r).parts refl h.0
      where
        by_parts : (ps : List Part) → (out-Relative r).parts ≡ ps → 0 < length ps → 0 < length (relative_signs r)
        by_parts [] e some = absurd (omega arith)
        by_parts (p ∷ ps) e some =
            let said : relative_signs r ≡ first_signs (out-Part p).link ++ (part_body p ++ flat_map further ps) = signs.relative_is r ∙ ap (λ qs. path_signs (map part_signs qs)) e ∙ path_is p ps in
            subst (λ (ss : List Sign). 0 < length ss) (sym said)
            (omega (arith, length-append (first_signs (out-Part p).link) (part_body p ++ flat_map further ps), length-append (part_body p) (flat_map further ps), length-append (element_signs (out-Part p).element) (flat_map simple_signs (out-Part p).simples), element_length (out-Part p).element))

    pub relative_starts : (k : ℕ) (r : Relative) → IsFitRelative r → AreAt text ts k (relative_signs r) → skip ts k ≡ k
    relative_starts k r h at = by_parts (out-Relative r).parts refl h.0
      where
        by_parts : (ps : List Part) → (out-Relative r).parts ≡ ps → 0 < length ps → skip ts k ≡ k
        by_parts [] e some = absurd (omega arith)
        by_parts (p ∷ ps) e some =
            let l = (out-Part p).link in
            let d = (out-Part p).element in
            let xs = (out-Part p).simples in
            let said : relative_signs r ≡ first_signs l ++ (element_signs d ++ (flat_map simple_signs xs ++ flat_map further ps)) =
            signs.relative_is r ∙ ap (λ qs. path_signs (map part_signs qs)) e ∙ path_is p ps ∙ ap (λ ss. first_signs l ++ ss) (append_assoc (element_signs d) (flat_map simple_signs xs) (flat_map further ps)) in
            first_skip text ts no_bar l k d (flat_map simple_signs xs ++ flat_map further ps) (subst (AreAt text ts k) said at)
