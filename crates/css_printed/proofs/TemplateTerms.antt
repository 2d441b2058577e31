-- The printed pieces as terms, template by template: the same tables as those of the texts.
use Rattle.std.proofs.Common.{ℕ, ◌||◌, List, [], ◌∷◌, ◌++◌, map, Option, Some, None, codes}
use Rattle.std.specs.Prelude.{ℤ, pos, if◌then◌else◌}
use Rattle.std.specs.List.{flat_map, list_any}
use Rattle.std.specs.Char.{to_ascii_lowercase}
use Rattle.text_base.specs.Text.{is_space5}
use Rattle.text_base.specs.Strings.{is_empty}
use Rattle.doc_model.specs.declared.Axis.{Axis}
use Rattle.doc_model.specs.declared.Axis.TheVariants as axis
use Rattle.css_selectors.specs.declared.selector.Dialect.{Dialect}
use Rattle.css_selectors.specs.declared.selector.Dialect.TheVariants.{Generic, Html}
use Rattle.css_selectors.specs.declared.selector.Link.{Link}
use Rattle.css_selectors.specs.declared.selector.Link.TheVariants as link
use Rattle.css_selectors.specs.declared.selector.Nth.{Nth}
use Rattle.css_selectors.specs.declared.selector.Nth.TheVariants as nth
use Rattle.css_selectors.specs.declared.selector.Op.{Op}
use Rattle.css_selectors.specs.declared.selector.Op.TheVariants as op
use Rattle.css_selectors.specs.declared.selector.Part.{Part}
use Rattle.css_selectors.specs.declared.selector.Pseudo.{Pseudo}
use Rattle.css_selectors.specs.declared.selector.Pseudo.TheVariants as pseudo
use Rattle.css_selectors.specs.declared.selector.Relative.{Relative}
use Rattle.css_selectors.specs.declared.selector.Selector.{Selector}
use Rattle.css_selectors.specs.declared.selector.SelectorList.{SelectorList}
use Rattle.css_selectors.specs.declared.selector.Simple.{Simple}
use Rattle.css_selectors.specs.declared.selector.Tail.{Tail}
use Rattle.css_selectors.specs.declared.selector.Tail.TheVariants as tail
use Rattle.css_selectors.specs.declared.selector.Test.{Test}
use Rattle.css_selectors.specs.declared.selector.Test.TheFolds.{fold-Test, fold-Compound, fold-Part, fold-Relative, fold-Simple}
use Rattle.css_selectors.specs.declared.selector.Test.TheOpen as open_
use Rattle.css_selectors.specs.WellMade.{innermost}
use Rattle.css_selectors.specs.declared.selector.Compound.{Compound}
use Rattle.css_meaning.specs.Names.{folded}
use Rattle.xpath_parser.specs.declared.expression.Func.{Func}
use Rattle.xpath_parser.specs.declared.expression.Func.TheVariants as f
use Rattle.xpath_parser.specs.declared.term.NodeType.TheVariants as node_type
use Rattle.xpath_parser.specs.declared.term.Term.{Term}
use Rattle.xpath_parser.specs.declared.term.Term.TheVariants as t
use Rattle.css_printed.specs.Simples.{behind_first}
use Rattle.css_printed.specs.Conditions.{Condition, never, exactly, at_least, at_most, every, conditions}
use Rattle.css_printed.specs.Literals.{Quoted, literal_parts}
use Rattle.css_printed.specs.Names.{is_plain}
use Rattle.css_printed.specs.TestTexts.{ByName}

-- ---- small words

abbrev pub in_square : List Term → List Term
in_square ts = t.OpenSquare ∷ (ts ++ t.CloseSquare ∷ [])

abbrev pub in_round : List Term → List Term
in_round ts = t.OpenRound ∷ (ts ++ t.CloseRound ∷ [])

abbrev pub call : Func → List Term → List Term
call g ts = t.Function g ∷ in_round ts

abbrev pub number : ℕ → Term
number n = t.Number (pos n)

abbrev pub listed : List Quoted → List Term
listed [] = []
listed (q ∷ []) = t.Literal q.content ∷ []
listed (q ∷ (r ∷ rs)) = t.Literal q.content ∷ t.Comma ∷ listed (r ∷ rs)

abbrev pub shown : List Quoted → List Term
shown [] = []
shown (q ∷ []) = t.Literal q.content ∷ []
shown (q ∷ (r ∷ rs)) = call f.Concat (listed (q ∷ (r ∷ rs)))

abbrev pub literal : List ℕ → List Term
literal x = shown (literal_parts x)

-- ---- names

abbrev pub name_bracket : List ℕ → List Term
name_bracket n = in_square (t.Function f.Name ∷ t.OpenRound ∷ t.CloseRound ∷ t.Equal ∷ literal n)

abbrev pub named : List ℕ → List Term
named n = if is_plain n then t.Name n ∷ [] else t.AnyName ∷ name_bracket n

abbrev pub element : Dialect → Option (List ℕ) → List Term
element d None = t.AnyName ∷ []
element d (Some n) = named (folded d n)

abbrev pub on_axis : Axis → List Term → List Term
on_axis a ts = t.Axis a ∷ t.DoubleColon ∷ ts

abbrev pub attribute : Dialect → List ℕ → List Term
attribute d n = if is_plain (folded d n) then t.At ∷ t.Name (folded d n) ∷ [] else on_axis axis.Attribute (t.AnyName ∷ name_bracket (folded d n))

abbrev pub plain_attribute : List ℕ → List Term
plain_attribute n = t.At ∷ t.Name n ∷ []

-- ---- attributes

abbrev pub nowhere : List Term
nowhere = in_square (number 0 ∷ [])

abbrev pub word : List Term → List ℕ → List Term
word at v =
    if is_empty v || list_any is_space5 v then nowhere else
    in_square (at ++ (t.And ∷ call f.Contains
    (call f.Concat (literal (codes " ") ++ (t.Comma ∷ (call f.NormalizeSpace at ++ (t.Comma ∷ literal (codes " ")))))
    ++ (t.Comma ∷ literal (codes " " ++ (v ++ codes " "))))))

abbrev pub dash : List Term → List ℕ → List Term
dash at v = in_square (at ++ (t.And ∷ in_round (at ++ (t.Equal ∷ (literal v ++ (t.Or ∷ call f.StartsWith (at ++ (t.Comma ∷ literal (v ++ codes "-")))))))))

abbrev pub prefix : List Term → List ℕ → List Term
prefix at v = if is_empty v then nowhere else in_square (at ++ (t.And ∷ call f.StartsWith (at ++ (t.Comma ∷ literal v))))

abbrev pub suffix : List Term → List ℕ → List Term
suffix at v =
    if is_empty v then nowhere else
    in_square (at ++ (t.And ∷ (call f.Substring (at ++ (t.Comma ∷ (call f.StringLength at ++ (t.Minus ∷ number (behind_first v) ∷ [])))) ++ (t.Equal ∷ literal v))))

abbrev pub substring : List Term → List ℕ → List Term
substring at v = if is_empty v then nowhere else in_square (at ++ (t.And ∷ call f.Contains (at ++ (t.Comma ∷ literal v))))

abbrev pub op_terms : List Term → Op → List ℕ → List Term
op_terms at op.Exists v = in_square at
op_terms at op.Equals v = in_square (at ++ (t.Equal ∷ literal v))
op_terms at op.Word v = word at v
op_terms at op.Dash v = dash at v
op_terms at op.Prefix v = prefix at v
op_terms at op.Suffix v = suffix at v
op_terms at op.Substring v = substring at v

-- ---- positions

abbrev pub siblings : Dialect → Option (List ℕ) → Nth → List Term
siblings d el nth.Child = on_axis axis.PrecedingSibling (t.AnyName ∷ [])
siblings d el nth.LastChild = on_axis axis.FollowingSibling (t.AnyName ∷ [])
siblings d el nth.OfType = on_axis axis.PrecedingSibling (element d el)
siblings d el nth.LastOfType = on_axis axis.FollowingSibling (element d el)

abbrev pub condition : List Term → Condition → List Term
condition xs never = nowhere
condition xs (exactly n) = in_square (call f.Count xs ++ (t.Equal ∷ number n ∷ []))
condition xs (at_least n) = in_square (call f.Count xs ++ (t.GreaterEqual ∷ number n ∷ []))
condition xs (at_most n) = in_square (call f.Count xs ++ (t.LessEqual ∷ number n ∷ []))
condition xs (every n r) = in_square (call f.Count xs ++ (t.Mod ∷ number n ∷ t.Equal ∷ number r ∷ []))

abbrev pub nth_terms : Dialect → Option (List ℕ) → Nth → ℤ → ℤ → List Term
nth_terms d el kind a b = flat_map (condition (siblings d el kind)) (conditions a b)

-- ---- pseudo-classes

abbrev pub self_named : List ℕ → List Term
self_named n = on_axis axis.OwnSelf (t.Name n ∷ [])

abbrev pub one_of : List (List ℕ) → List Term
one_of [] = []
one_of (n ∷ []) = self_named n
one_of (n ∷ (m ∷ ms)) = self_named n ++ (t.Or ∷ one_of (m ∷ ms))

abbrev pub control : List Term
control = one_of (codes "button" ∷ codes "fieldset" ∷ codes "input" ∷ codes "optgroup" ∷ codes "option" ∷ codes "select" ∷ codes "textarea" ∷ [])

abbrev pub html_only : Dialect → List Term → List Term
html_only Generic ts = nowhere
html_only Html ts = ts

abbrev pub empty_terms : List Term
empty_terms = in_square (call f.Not (t.AnyName ∷ []) ++ (t.And ∷ call f.Not (t.NodeType node_type.Text ∷ t.OpenRound ∷ t.CloseRound ∷ [])))

abbrev pub link_terms : List Term
link_terms = in_square (plain_attribute (codes "href") ++ (t.And ∷ in_round (one_of (codes "a" ∷ codes "area" ∷ codes "link" ∷ []))))

abbrev pub checked_terms : List Term
checked_terms =
    in_square
    (in_round (plain_attribute (codes "selected") ++ (t.And ∷ self_named (codes "option")))
    ++ (t.Or ∷ in_round (plain_attribute (codes "checked") ++ (t.And ∷ (self_named (codes "input") ++ (t.And ∷ in_round
    (plain_attribute (codes "type") ++ (t.Equal ∷ t.Literal (codes "checkbox") ∷ t.Or ∷ (plain_attribute (codes "type") ++ (t.Equal ∷ t.Literal (codes "radio") ∷ []))))))))))

abbrev pub enabled_terms : List Term
enabled_terms = in_square (call f.Not (plain_attribute (codes "disabled")) ++ (t.And ∷ in_round control))

abbrev pub disabled_terms : List Term
disabled_terms = in_square (plain_attribute (codes "disabled") ++ (t.And ∷ in_round control))

abbrev pub pseudo_terms : Dialect → Option (List ℕ) → Pseudo → List Term
pseudo_terms d el pseudo.OnlyChild = nth_terms d el nth.Child (pos 0) (pos 1) ++ nth_terms d el nth.LastChild (pos 0) (pos 1)
pseudo_terms d el pseudo.OnlyOfType = nth_terms d el nth.OfType (pos 0) (pos 1) ++ nth_terms d el nth.LastOfType (pos 0) (pos 1)
pseudo_terms d el pseudo.Empty = empty_terms
pseudo_terms d el pseudo.Root = in_square (call f.Not (on_axis axis.Parent (t.AnyName ∷ [])))
pseudo_terms d el pseudo.Never = nowhere
pseudo_terms d el pseudo.Link = html_only d link_terms
pseudo_terms d el pseudo.Checked = html_only d checked_terms
pseudo_terms d el pseudo.Enabled = html_only d enabled_terms
pseudo_terms d el pseudo.Disabled = html_only d disabled_terms

-- ---- languages

abbrev pub lang_begins : List ℕ → List Term
lang_begins x =
    call f.StartsWith
    (call f.Concat
    (call f.Translate (plain_attribute (codes "lang") ++ (t.Comma ∷ t.Literal (codes "ABCDEFGHIJKLMNOPQRSTUVWXYZ") ∷ t.Comma ∷ t.Literal (codes "abcdefghijklmnopqrstuvwxyz") ∷ []))
    ++ (t.Comma ∷ t.Literal (codes "-") ∷ []))
    ++ (t.Comma ∷ literal (map to_ascii_lowercase x ++ codes "-")))

abbrev pub lang_terms : Dialect → List ℕ → List Term
lang_terms Generic x = in_square (call f.Lang (literal x))
lang_terms Html x =
    in_square (on_axis axis.AncestorOrSelf (t.AnyName ∷ (in_square (plain_attribute (codes "lang")) ++ (in_square (number 1 ∷ []) ++ in_square (lang_begins x)))))

-- ---- links

abbrev pub next_terms : Dialect → Option (List ℕ) → List Term
next_terms d None = []
next_terms d (Some n) = in_square (on_axis axis.OwnSelf (element d (Some n)))

-- a part's axis and element, where no other step stands before it
abbrev pub first_terms : Dialect → Link → Option (List ℕ) → List Term
first_terms d link.First el = on_axis axis.DescendantOrSelf (element d el)
first_terms d link.Descendant el = on_axis axis.Descendant (element d el)
first_terms d link.Child el = on_axis axis.Child (element d el)
first_terms d link.Next el = on_axis axis.FollowingSibling (t.AnyName ∷ (in_square (number 1 ∷ []) ++ next_terms d el))
first_terms d link.Later el = on_axis axis.FollowingSibling (element d el)

-- the same behind a `/`
abbrev pub link_step_terms : Dialect → Link → Option (List ℕ) → List Term
link_step_terms d link.First el = first_terms d link.First el
link_step_terms d link.Descendant el = first_terms d link.Descendant el
link_step_terms d link.Child el = element d el
link_step_terms d link.Next el = first_terms d link.Next el
link_step_terms d link.Later el = first_terms d link.Later el

-- ---- all tests

-- the predicates of a test, and what stands in its negation
pub record Said : Type 0 where
  pub brackets : List Term
  pub inside : List Term

abbrev pub itself : List Term → List Term
itself ts = on_axis axis.OwnSelf (t.AnyName ∷ ts)

abbrev pub by_itself : List Term → Said
by_itself ts = record { brackets = ts; inside = itself ts }

abbrev pub alone : List Term → Said
alone ts = record { brackets = in_square ts; inside = ts }

-- with `or` between
abbrev pub choice : List (List Term) → List Term
choice [] = []
choice (x ∷ []) = x
choice (x ∷ (y ∷ ys)) = x ++ (t.Or ∷ choice (y ∷ ys))

-- a part as the first of a relative, and behind a `/`
pub record Steps : Type 0 where
  pub first : List Term
  pub further : List Term

-- one step behind the other
abbrev pub path_terms : List Steps → List Term
path_terms [] = []
path_terms (x ∷ xs) = x.first ++ flat_map (λ y. t.Slash ∷ y.further) xs

module _ (d : Dialect) where
  abbrev pub test_step : open_.Test-F (ByName Said) (ByName (List Term)) Steps (List Term) (ByName (List Term)) → ByName Said
  test_step (open_.Element n) around = alone (on_axis axis.OwnSelf (element d n))
  test_step (open_.Id x) around = by_itself (in_square (plain_attribute (codes "id") ++ (t.Equal ∷ literal x)))
  test_step (open_.Class x) around = by_itself (op_terms (attribute d (codes "class")) op.Word x)
  test_step (open_.Attr name o v) around = by_itself (op_terms (attribute d name) o v)
  test_step (open_.Nth kind a b) around = by_itself (nth_terms d around kind a b)
  test_step (open_.Pseudo p) around = by_itself (pseudo_terms d around p)
  test_step (open_.Contains x) around = by_itself (in_square (call f.Contains (t.Dot ∷ t.Comma ∷ literal x)))
  test_step (open_.Lang x) around = by_itself (lang_terms d x)
  test_step (open_.Any w list) around = alone (choice (map (λ c. c around) list))
  test_step (open_.Has list) around = by_itself (in_square (choice list))

  abbrev pub simple_step : open_.Simple-F (ByName Said) (ByName (List Term)) Steps (List Term) (ByName (List Term)) → ByName (List Term)
  simple_step x around = if x.negated then in_square (call f.Not (x.test around).inside) else (x.test around).brackets

  abbrev pub compound_step : open_.Compound-F (ByName Said) (ByName (List Term)) Steps (List Term) (ByName (List Term)) → ByName (List Term)
  compound_step c around = on_axis axis.OwnSelf (element d c.element ++ flat_map (λ x. x (innermost around c.element)) c.simples)

  abbrev pub part_step : open_.Part-F (ByName Said) (ByName (List Term)) Steps (List Term) (ByName (List Term)) → Steps
  part_step p = record {
    first = first_terms d p.link p.element ++ flat_map (λ x. x p.element) p.simples;
    further = link_step_terms d p.link p.element ++ flat_map (λ x. x p.element) p.simples;
  }

  abbrev pub relative_step : open_.Relative-F (ByName Said) (ByName (List Term)) Steps (List Term) (ByName (List Term)) → List Term
  relative_step r = path_terms r.parts

  unfoldable pub test_terms : Test → ByName Said
  test_terms = fold-Test (ByName Said) (ByName (List Term)) Steps (List Term) (ByName (List Term)) test_step compound_step part_step relative_step simple_step

  unfoldable pub compound_terms : Compound → ByName (List Term)
  compound_terms = fold-Compound (ByName Said) (ByName (List Term)) Steps (List Term) (ByName (List Term)) test_step compound_step part_step relative_step simple_step

  unfoldable pub part_steps : Part → Steps
  part_steps = fold-Part (ByName Said) (ByName (List Term)) Steps (List Term) (ByName (List Term)) test_step compound_step part_step relative_step simple_step

  unfoldable pub relative_terms : Relative → List Term
  relative_terms = fold-Relative (ByName Said) (ByName (List Term)) Steps (List Term) (ByName (List Term)) test_step compound_step part_step relative_step simple_step

  unfoldable pub simple_terms : Simple → ByName (List Term)
  simple_terms = fold-Simple (ByName Said) (ByName (List Term)) Steps (List Term) (ByName (List Term)) test_step compound_step part_step relative_step simple_step

-- ---- parts, tails, selectors and lists

-- a part behind a `/`
abbrev pub part_terms : Dialect → Part → List Term
part_terms d p = (part_steps d p).further

-- the tail's step, without the `/` before it
abbrev pub tail_terms : Dialect → Tail → List Term
tail_terms d tail.Element = []
tail_terms d tail.Text = t.NodeType node_type.Text ∷ t.OpenRound ∷ t.CloseRound ∷ []
tail_terms d (tail.Attr n) = attribute d n

-- the tail with its `/`
abbrev pub ending_terms : Dialect → Tail → List Term
ending_terms d tail.Element = []
ending_terms d tail.Text = t.Slash ∷ tail_terms d tail.Text
ending_terms d (tail.Attr n) = t.Slash ∷ tail_terms d (tail.Attr n)

-- further parts, each with its `/`
abbrev pub further_terms : Dialect → List Part → List Term
further_terms d ps = flat_map (λ p. t.Slash ∷ part_terms d p) ps

abbrev pub parts_terms : Dialect → List Part → List Term
parts_terms d [] = []
parts_terms d (p ∷ ps) = part_terms d p ++ further_terms d ps

abbrev pub selector_terms : Dialect → Selector → List Term
selector_terms d s = parts_terms d s.parts ++ ending_terms d s.tail

abbrev pub united_terms : Dialect → List Selector → List Term
united_terms d [] = []
united_terms d (s ∷ []) = selector_terms d s
united_terms d (s ∷ (u ∷ us)) = selector_terms d s ++ (t.Bar ∷ united_terms d (u ∷ us))

abbrev pub list_terms : Dialect → SelectorList → List Term
list_terms d list = united_terms d list.items
