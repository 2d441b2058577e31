-- Some selectors as they are typed, by computing: the compounds that their tokens are, and the list.
use Rattle.std.proofs.Common.{◌≡◌, refl, ℕ, List, [], ◌∷◌, Some, None, codes, false, sym, ap, ◌∙◌, ◌++◌, map, flat_map}
use Rattle.std.specs.Prelude.{pos, negsuc, Option, is_some}
use Rattle.css_selectors.specs.declared.selector.Link.{Link}
use Rattle.css_selectors.specs.declared.selector.Link.TheVariants as link
use Rattle.css_selectors.specs.declared.selector.Nth.TheVariants as nth
use Rattle.css_selectors.specs.declared.selector.Op.TheVariants as op
use Rattle.css_selectors.specs.declared.selector.Pseudo.TheVariants as pseudo
use Rattle.css_selectors.specs.declared.selector.Tail.TheVariants as tail
use Rattle.css_parser.specs.declared.pieces.Compound.{Compound}
use Rattle.css_parser.specs.declared.pieces.Form.{Form}
use Rattle.css_parser.specs.declared.pieces.Form.TheVariants as form
use Rattle.css_parser.specs.declared.pieces.Piece.TheVariants as piece
use Rattle.css_parser.specs.declared.pieces.Plain.{Plain}
use Rattle.css_parser.specs.declared.pieces.Plain.TheVariants as plain
use Rattle.css_parser.specs.Places.{code_at, value_at, skip, text_at}
use Rattle.css_parser.specs.Simples.{element, piece_at, attribute, nth_argument, round_close, written_up_to, pseudo_class, pseudo_element, word_called}
use Rattle.css_parser.specs.Names.{nth_called, class_called}
use Rattle.css_parser.specs.Nth.{past_blanks, past_digits, size}
use Rattle.css_parser.specs.Choices.{word_at, inner_at, member_at, simple_by}
use Rattle.css_parser.specs.Links.{combinator, sign}
use Rattle.css_parser.specs.Grammar.{Reads}
use Rattle.css_selectors.specs.declared.selector.Test.TheVariants as test
use Rattle.css_selectors.specs.Examples.{part, compound as choice, is, is_not, selector, single}
use Rattle.css_parser.specs.Examples.{is_read, WorkedLists}
use Rattle.css_parser.specs.declared.pieces.Form.TheViews as views
use Rattle.css_parser.specs.declared.pieces.Inner.{Inner, roll-Inner}
use Rattle.css_parser.specs.declared.pieces.Member.{Member, roll-Member}
use Rattle.css_parser.specs.declared.pieces.Word.TheVariants as word
use Rattle.css_selectors.specs.declared.selector.Relative.{roll-Relative}
use Rattle.css_selectors.specs.declared.selector.Weight.TheVariants as weight
use Rattle.css_parser.proofs.CopyLemmas.{one_tail, choice_tail}
use Rattle.css_parser.proofs.RefusalLemmas as refusals
use Rattle.css_parser.proofs.RefusalLemmas.{one_refusal, choice_refusal}
use Rattle.css_parser.proofs.ValueLemmas as values
use Rattle.css_parser.proofs.ValueLemmas.{one_value}
use Rattle.css_selectors.specs.declared.selector.SelectorList.{SelectorList}
use Rattle.css_selectors.specs.declared.selector.Simple.{Simple}
use Rattle.css_selectors.specs.declared.selector.Tail.{Tail}
use Rattle.css_parser.specs.declared.pieces.Word.{Word}
use Rattle.css_parser.specs.Values.{FormValue, form_simples, member_value, choice_value, simple_of, test_of}
use Rattle.css_parser.proofs.WorkedChoices.{denied_tokens, denied_lexes, either_tokens, either_lexes, ahead_tokens, ahead_lexes}
use Rattle.css_parser.proofs.WorkedTokens.{next_tokens, next_lexes, nested_tokens, nested_lexes, later_tokens, later_lexes, begun_tokens, begun_lexes, places_tokens, places_lexes, ticked_tokens, ticked_lexes}

abbrev compound : Link → List ℕ → List Form → Compound
compound l n forms = record { link = l; element = Some n; prefixed = false; forms = forms }

abbrev plainly : Plain → Form
plainly p = form.One (piece.Plain p)

abbrev inner : Link → Option (List ℕ) → List Form → Inner
inner l n forms = roll-Inner (record { link = l; named = is_some n; element = n; prefixed = false; forms = forms })

abbrev member : List Inner → Member
member parts = roll-Member (record { parts = parts })

-- what a simple selector, a tail and a choice give
said : (p : Plain) (xs : List Form) (ys : List Simple) → flat_map form_simples xs ≡ ys → flat_map form_simples (plainly p ∷ xs) ≡ simple_of false (test_of p) ∷ ys
said p xs ys h = ap (λ (v : FormValue). v.simples ++ flat_map form_simples xs) (one_value (piece.Plain p)) ∙ ap (λ zs. simple_of false (test_of p) ∷ zs) h

ended : (t : Tail) → flat_map form_simples (form.One (piece.Tail t) ∷ []) ≡ []
ended t = ap (λ (v : FormValue). v.simples ++ []) (one_value (piece.Tail t))

chosen : (w : Word) (xs : List Member) → flat_map form_simples (form.Choice w xs ∷ []) ≡ choice_value w (map member_value xs) ∷ []
chosen w xs = ap (λ ys. ys ++ []) (values.choice_simples w xs)

abbrev next_found : List (List Compound)
next_found = (compound link.First (codes "h1") [] ∷ compound link.Next (codes "p") [] ∷ []) ∷ []

next_reads : Reads (codes "h1 + p") next_tokens next_found
unfolding code_at value_at skip element combinator lib.Utf8.encode
next_reads = (5, (1, refl, record { begins = (refl, refl); simples = refl }, (4, 5, refl, record { begins = (refl, refl); simples = refl }, refl)), refl)

next_row : is_read (codes "h1 + p") (selector (part link.First (Some (codes "h1")) [] ∷ part link.Next (Some (codes "p")) [] ∷ []) tail.Element ∷ [])
next_row = record { tokens = next_tokens; spelled = next_lexes; found = next_found; reads = next_reads; allowed = refl; is_list = refl }

abbrev nested_found : List (List Compound)
nested_found = (compound link.First (codes "UL") [] ∷ compound link.Child (codes "li") [] ∷ compound link.Descendant (codes "a") [] ∷ []) ∷ (compound link.First (codes "b") [] ∷ []) ∷ []

nested_reads : Reads (codes "UL > li a, b") nested_tokens nested_found
unfolding code_at value_at skip element combinator lib.Utf8.encode
nested_reads = (
  7,
  (1, refl, record { begins = (refl, refl); simples = refl }, (4, 5, refl, record { begins = (refl, refl); simples = refl }, (6, 7, refl, record { begins = (refl, refl); simples = refl }, refl))),
  (10, refl, (10, refl, record { begins = (refl, refl); simples = refl }, refl), refl),
)

nested_row : is_read (codes "UL > li a, b") (selector (part link.First (Some (codes "UL")) [] ∷ part link.Child (Some (codes "li")) [] ∷ part link.Descendant (Some (codes "a")) [] ∷ []) tail.Element ∷ single (Some (codes "b")) [] ∷ [])
nested_row = record { tokens = nested_tokens; spelled = nested_lexes; found = nested_found; reads = nested_reads; allowed = refl; is_list = refl }

abbrev later_found : List (List Compound)
later_found = (compound link.First (codes "h1") [] ∷ compound link.Later (codes "p") (plainly (plain.Id (codes "x")) ∷ plainly (plain.Class (codes "y")) ∷ form.One (piece.Tail tail.Text) ∷ []) ∷ []) ∷ []

later_reads : Reads (codes "h1 ~ p#x.y::text") later_tokens later_found
unfolding code_at value_at skip element combinator lib.Utf8.encode piece_at pseudo_element text_at simple_by word_at word_called
later_reads = (10, (1, refl, record { begins = (refl, refl); simples = refl }, (4, 10, refl, record { begins = (refl, refl); simples = (6, refl, (8, refl, (10, refl, refl))) }, refl)), refl)

later_simples : flat_map form_simples (plainly (plain.Id (codes "x")) ∷ plainly (plain.Class (codes "y")) ∷ form.One (piece.Tail tail.Text) ∷ []) ≡ is (test.Id (codes "x")) ∷ is (test.Class (codes "y")) ∷ []
later_simples = said (plain.Id (codes "x")) (plainly (plain.Class (codes "y")) ∷ form.One (piece.Tail tail.Text) ∷ []) (is (test.Class (codes "y")) ∷ []) (said (plain.Class (codes "y")) (form.One (piece.Tail tail.Text) ∷ []) [] (ended tail.Text))

later_row : is_read (codes "h1 ~ p#x.y::text") (selector (part link.First (Some (codes "h1")) [] ∷ part link.Later (Some (codes "p")) (is (test.Id (codes "x")) ∷ is (test.Class (codes "y")) ∷ []) ∷ []) tail.Text ∷ [])
later_row = record {
  tokens = later_tokens;
  spelled = later_lexes;
  found = later_found;
  reads = later_reads;
  allowed = simp (one_refusal) refl;
  is_list =
      let list : List Simple → SelectorList = λ xs. record { items = selector (part link.First (Some (codes "h1")) [] ∷ part link.Later (Some (codes "p")) xs ∷ []) tail.Text ∷ [] } in
      simp (one_tail) (ap list (sym later_simples));
}

abbrev begun_found : List (List Compound)
begun_found = (compound link.First (codes "a") (plainly (plain.Attr (codes "href") op.Prefix (codes "/p/")) ∷ form.One (piece.Tail (tail.Attr (codes "href"))) ∷ []) ∷ []) ∷ []

begun_reads : Reads (codes "a[href^='/p/']::attr(href)") begun_tokens begun_found
unfolding code_at value_at skip element combinator lib.Utf8.encode piece_at attribute pseudo_element text_at simple_by word_at word_called nth_called
begun_reads = (10, (10, refl, record { begins = (refl, refl); simples = (6, refl, (10, refl, refl)) }, refl), refl)

begun_simples : flat_map form_simples (plainly (plain.Attr (codes "href") op.Prefix (codes "/p/")) ∷ form.One (piece.Tail (tail.Attr (codes "href"))) ∷ []) ≡ is (test.Attr (codes "href") op.Prefix (codes "/p/")) ∷ []
begun_simples = said (plain.Attr (codes "href") op.Prefix (codes "/p/")) (form.One (piece.Tail (tail.Attr (codes "href"))) ∷ []) [] (ended (tail.Attr (codes "href")))

begun_row : is_read (codes "a[href^='/p/']::attr(href)") (selector (part link.First (Some (codes "a")) (is (test.Attr (codes "href") op.Prefix (codes "/p/")) ∷ []) ∷ []) (tail.Attr (codes "href")) ∷ [])
begun_row = record {
  tokens = begun_tokens;
  spelled = begun_lexes;
  found = begun_found;
  reads = begun_reads;
  allowed = simp (one_refusal) refl;
  is_list =
      let list : List Simple → SelectorList = λ xs. record { items = selector (part link.First (Some (codes "a")) xs ∷ []) (tail.Attr (codes "href")) ∷ [] } in
      simp (one_tail) (ap list (sym begun_simples));
}

abbrev places_found : List (List Compound)
places_found = (compound link.First (codes "li") (plainly (plain.Nth nth.Child (negsuc 0) (pos 3)) ∷ []) ∷ []) ∷ []

places_reads : Reads (codes "li:nth-child(-n+3)") places_tokens places_found
unfolding code_at value_at skip element combinator lib.Utf8.encode piece_at pseudo_class text_at simple_by word_at word_called nth_called nth_argument round_close written_up_to past_blanks past_digits size
places_reads = (7, (7, refl, record { begins = (refl, refl); simples = (7, refl, refl) }, refl), refl)

places_simples : flat_map form_simples (plainly (plain.Nth nth.Child (negsuc 0) (pos 3)) ∷ []) ≡ is (test.Nth nth.Child (negsuc 0) (pos 3)) ∷ []
places_simples = said (plain.Nth nth.Child (negsuc 0) (pos 3)) [] [] refl

places_row : is_read (codes "li:nth-child(-n+3)") (single (Some (codes "li")) (is (test.Nth nth.Child (negsuc 0) (pos 3)) ∷ []) ∷ [])
places_row = record {
  tokens = places_tokens;
  spelled = places_lexes;
  found = places_found;
  reads = places_reads;
  allowed = simp (one_refusal) refl;
  is_list =
      let list : List Simple → SelectorList = λ xs. record { items = single (Some (codes "li")) xs ∷ [] } in
      simp (one_tail) (ap list (sym places_simples));
}

abbrev ticked_found : List (List Compound)
ticked_found = (compound link.First (codes "input") (plainly (plain.Pseudo pseudo.Checked) ∷ []) ∷ []) ∷ []

ticked_reads : Reads (codes "input:checked") ticked_tokens ticked_found
unfolding code_at value_at skip element combinator lib.Utf8.encode piece_at pseudo_class text_at simple_by word_at word_called class_called
ticked_reads = (3, (3, refl, record { begins = (refl, refl); simples = (3, refl, refl) }, refl), refl)

ticked_simples : flat_map form_simples (plainly (plain.Pseudo pseudo.Checked) ∷ []) ≡ is (test.Pseudo pseudo.Checked) ∷ []
ticked_simples = said (plain.Pseudo pseudo.Checked) [] [] refl

ticked_row : is_read (codes "input:checked") (single (Some (codes "input")) (is (test.Pseudo pseudo.Checked) ∷ []) ∷ [])
ticked_row = record {
  tokens = ticked_tokens;
  spelled = ticked_lexes;
  found = ticked_found;
  reads = ticked_reads;
  allowed = simp (one_refusal) refl;
  is_list =
      let list : List Simple → SelectorList = λ xs. record { items = single (Some (codes "input")) xs ∷ [] } in
      simp (one_tail) (ap list (sym ticked_simples));
}

abbrev denied_found : List (List Compound)
denied_found = (compound link.First (codes "p") (form.Choice word.Not (member (inner link.First None (plainly (plain.Class (codes "note")) ∷ []) ∷ []) ∷ []) ∷ []) ∷ []) ∷ []

denied_reads : Reads (codes "p:not(.note)") denied_tokens denied_found
unfolding code_at value_at skip element combinator lib.Utf8.encode piece_at text_at simple_by word_at word_called inner_at member_at
denied_reads = (6, (6, refl, record { begins = (refl, refl); simples = (6, refl, refl) }, refl), refl)

denied_value : choice_value word.Not (member_value (member (inner link.First None (plainly (plain.Class (codes "note")) ∷ []) ∷ [])) ∷ []) ≡ is_not (test.Class (codes "note"))
denied_value = simp (values.member_is, values.inner_is, one_value, views.out-roll-Inner, views.out-roll-Member) refl

denied_simples : flat_map form_simples (form.Choice word.Not (member (inner link.First None (plainly (plain.Class (codes "note")) ∷ []) ∷ []) ∷ []) ∷ []) ≡ is_not (test.Class (codes "note")) ∷ []
denied_simples = chosen word.Not (member (inner link.First None (plainly (plain.Class (codes "note")) ∷ []) ∷ []) ∷ []) ∙ ap (λ x. x ∷ []) denied_value

denied_row : is_read (codes "p:not(.note)") (single (Some (codes "p")) (is_not (test.Class (codes "note")) ∷ []) ∷ [])
denied_row = record {
  tokens = denied_tokens;
  spelled = denied_lexes;
  found = denied_found;
  reads = denied_reads;
  allowed = simp (one_refusal, choice_refusal, refusals.member_is, refusals.inner_is, views.out-roll-Inner, views.out-roll-Member) refl;
  is_list =
      let list : List Simple → SelectorList = λ xs. record { items = single (Some (codes "p")) xs ∷ [] } in
      simp (choice_tail) (ap list (sym denied_simples));
}

abbrev either_found : List (List Compound)
either_found = (record { link = link.First; element = None; prefixed = false; forms = form.Choice word.Is (member (inner link.First (Some (codes "h1")) [] ∷ []) ∷ member (inner link.First (Some (codes "h2")) [] ∷ []) ∷ []) ∷ [] } ∷ compound link.Child (codes "a") [] ∷ []) ∷ []

either_reads : Reads (codes ":is(h1, h2) > a") either_tokens either_found
unfolding code_at value_at skip element combinator lib.Utf8.encode piece_at text_at simple_by word_at word_called inner_at member_at
either_reads = (11, (7, refl, record { begins = (refl, refl, λ h. cc); simples = (7, refl, refl) }, (10, 11, refl, record { begins = (refl, refl); simples = refl }, refl)), refl)

either_value : choice_value word.Is (member_value (member (inner link.First (Some (codes "h1")) [] ∷ [])) ∷ member_value (member (inner link.First (Some (codes "h2")) [] ∷ [])) ∷ []) ≡ is (test.Any weight.Most (choice (Some (codes "h1")) [] ∷ choice (Some (codes "h2")) [] ∷ []))
either_value = simp (values.member_is, values.inner_is, one_value, views.out-roll-Inner, views.out-roll-Member) refl

either_simples : flat_map form_simples (form.Choice word.Is (member (inner link.First (Some (codes "h1")) [] ∷ []) ∷ member (inner link.First (Some (codes "h2")) [] ∷ []) ∷ []) ∷ []) ≡ is (test.Any weight.Most (choice (Some (codes "h1")) [] ∷ choice (Some (codes "h2")) [] ∷ [])) ∷ []
either_simples = chosen word.Is (member (inner link.First (Some (codes "h1")) [] ∷ []) ∷ member (inner link.First (Some (codes "h2")) [] ∷ []) ∷ []) ∙ ap (λ x. x ∷ []) either_value

either_row : is_read (codes ":is(h1, h2) > a") (selector (part link.First None (is (test.Any weight.Most (choice (Some (codes "h1")) [] ∷ choice (Some (codes "h2")) [] ∷ [])) ∷ []) ∷ part link.Child (Some (codes "a")) [] ∷ []) tail.Element ∷ [])
either_row = record {
  tokens = either_tokens;
  spelled = either_lexes;
  found = either_found;
  reads = either_reads;
  allowed = simp (one_refusal, choice_refusal, refusals.member_is, refusals.inner_is, views.out-roll-Inner, views.out-roll-Member) refl;
  is_list =
      let list : List Simple → SelectorList = λ xs. record { items = selector (part link.First None xs ∷ part link.Child (Some (codes "a")) [] ∷ []) tail.Element ∷ [] } in
      simp (choice_tail) (ap list (sym either_simples));
}

abbrev ahead_found : List (List Compound)
ahead_found = (compound link.First (codes "ul") (form.Choice word.Has (member (inner link.Child (Some (codes "li")) (plainly (plain.Class (codes "x")) ∷ []) ∷ inner link.Next (Some (codes "li")) [] ∷ []) ∷ []) ∷ []) ∷ []) ∷ []

ahead_reads : Reads (codes "ul:has(> li.x + li)") ahead_tokens ahead_found
unfolding code_at value_at skip element combinator lib.Utf8.encode piece_at text_at simple_by word_at word_called inner_at member_at sign
ahead_reads = (13, (13, refl, record { begins = (refl, refl); simples = (13, refl, refl) }, refl), refl)

ahead_value : choice_value word.Has (member_value (member (inner link.Child (Some (codes "li")) (plainly (plain.Class (codes "x")) ∷ []) ∷ inner link.Next (Some (codes "li")) [] ∷ [])) ∷ []) ≡ is (test.Has (roll-Relative (record { parts = part link.Child (Some (codes "li")) (is (test.Class (codes "x")) ∷ []) ∷ part link.Next (Some (codes "li")) [] ∷ [] }) ∷ []))
ahead_value = simp (values.member_is, values.inner_is, one_value, views.out-roll-Inner, views.out-roll-Member) refl

ahead_simples : flat_map form_simples (form.Choice word.Has (member (inner link.Child (Some (codes "li")) (plainly (plain.Class (codes "x")) ∷ []) ∷ inner link.Next (Some (codes "li")) [] ∷ []) ∷ []) ∷ []) ≡ is (test.Has (roll-Relative (record { parts = part link.Child (Some (codes "li")) (is (test.Class (codes "x")) ∷ []) ∷ part link.Next (Some (codes "li")) [] ∷ [] }) ∷ [])) ∷ []
ahead_simples = chosen word.Has (member (inner link.Child (Some (codes "li")) (plainly (plain.Class (codes "x")) ∷ []) ∷ inner link.Next (Some (codes "li")) [] ∷ []) ∷ []) ∙ ap (λ x. x ∷ []) ahead_value

ahead_row : is_read (codes "ul:has(> li.x + li)") (single (Some (codes "ul")) (is (test.Has (roll-Relative (record { parts = part link.Child (Some (codes "li")) (is (test.Class (codes "x")) ∷ []) ∷ part link.Next (Some (codes "li")) [] ∷ [] }) ∷ [])) ∷ []) ∷ [])
ahead_row = record {
  tokens = ahead_tokens;
  spelled = ahead_lexes;
  found = ahead_found;
  reads = ahead_reads;
  allowed = simp (one_refusal, choice_refusal, refusals.member_is, refusals.inner_is, views.out-roll-Inner, views.out-roll-Member) refl;
  is_list =
      let list : List Simple → SelectorList = λ xs. record { items = single (Some (codes "ul")) xs ∷ [] } in
      simp (choice_tail) (ap list (sym ahead_simples));
}

pub worked : WorkedLists
worked = record {
  next = next_row;
  nested = nested_row;
  later = later_row;
  begun = begun_row;
  places = places_row;
  ticked = ticked_row;
  denied = denied_row;
  either = either_row;
  ahead = ahead_row;
}
