-- A small document, worked by hand: that of `<p c="x">ab<!--k--><q>z</q></p>`.
use Rattle.std.specs.Prelude.{◌≡◌, [], ◌∷◌}
use Rattle.doc_model.specs.declared.Axis.TheVariants as axis
use Rattle.doc_model.specs.declared.NodeTest.TheVariants as test
use Rattle.doc_model.specs.Axes.{axis_list}
use Rattle.doc_model.specs.Document.{Document, no_row, IsDocument}
use Rattle.doc_model.specs.StringValue.{string_value}
use Rattle.doc_model.specs.Growing.{element_row, attr_row, text_row, comment_row}

-- its characters are p, c, x, a and b, k, q and z
abbrev pub worked : Document
worked =
    no_row
    ∷ element_row 0 (112 ∷ [])
    ∷ attr_row 1 (99 ∷ []) (120 ∷ [])
    ∷ text_row 1 (97 ∷ 98 ∷ [])
    ∷ comment_row 1 (107 ∷ [])
    ∷ element_row 1 (113 ∷ [])
    ∷ text_row 5 (122 ∷ [])
    ∷ []

abbrev pub WorkedDocument : Type 0
WorkedDocument = IsDocument worked

-- what stands on its axes, and the string value of its element
pub record WorkedLists : Type 0 where
  pub child : axis_list worked 1 axis.Child test.Node ≡ 3 ∷ 4 ∷ 5 ∷ []
  pub named : axis_list worked 1 axis.Child (test.Name (113 ∷ [])) ≡ 5 ∷ []
  pub attribute : axis_list worked 1 axis.Attribute test.AnyName ≡ 2 ∷ []
  pub descendant : axis_list worked 0 axis.Descendant test.Text ≡ 3 ∷ 6 ∷ []
  pub ancestor_or_self : axis_list worked 2 axis.AncestorOrSelf test.Node ≡ 2 ∷ 1 ∷ 0 ∷ []
  pub preceding : axis_list worked 6 axis.Preceding test.Node ≡ 4 ∷ 3 ∷ []
  pub following_sibling : axis_list worked 3 axis.FollowingSibling test.Node ≡ 4 ∷ 5 ∷ []
  pub value : string_value worked 1 ≡ 97 ∷ 98 ∷ 122 ∷ []
