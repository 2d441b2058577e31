-- The attributes of an element and the tests on their values. Selectors Level 3, sections 6.3, 6.4 and 6.5.
use Rattle.std.specs.Prelude.{ℕ, Bool, true, ◌&&◌, ◌||◌, not, List, ◌++◌, map, codes}
use Rattle.std.specs.Char.{to_ascii_lowercase}
use Rattle.std.specs.List.{list_any}
use Rattle.std.specs.Str.{bytes_eq}
use Rattle.text_base.specs.Text.{is_space5}
use Rattle.text_base.specs.Strings.{is_empty, starts_with, ends_with, contains, is_among, runs}
pub use Rattle.doc_model.specs.Attributes.{is_attribute_of, has_value}
use Rattle.doc_model.specs.Document.{Document}
use Rattle.css_selectors.specs.declared.selector.Dialect.{Dialect}
use Rattle.css_selectors.specs.declared.selector.Op.{Op}
use Rattle.css_selectors.specs.declared.selector.Op.TheVariants as op
use Rattle.css_meaning.specs.Names.{folded}

-- e has the attribute
abbrev pub has_attribute : Document → ℕ → List ℕ → Bool
has_attribute doc e name = has_value doc e name (λ value. true)

-- v is not empty, holds no white space, and is one of the value's words that white space parts
abbrev pub word_test : List ℕ → List ℕ → Bool
word_test value v = not (is_empty v) && (not (list_any is_space5 v) && is_among v (runs is_space5 value))

-- the value is v, or begins with v and `-`
abbrev pub dash_test : List ℕ → List ℕ → Bool
dash_test value v = bytes_eq value v || starts_with value (v ++ codes "-")

-- the value begins with v, which is not empty
abbrev pub prefix_test : List ℕ → List ℕ → Bool
prefix_test value v = not (is_empty v) && starts_with value v

-- the value ends with v, which is not empty
abbrev pub suffix_test : List ℕ → List ℕ → Bool
suffix_test value v = not (is_empty v) && ends_with value v

-- the value contains v, which is not empty
abbrev pub substring_test : List ℕ → List ℕ → Bool
substring_test value v = not (is_empty v) && contains value v

-- the value is v, or begins with v and `-`, ASCII letter case ignored
abbrev pub lang_test : List ℕ → List ℕ → Bool
lang_test value v = dash_test (map to_ascii_lowercase value) (map to_ascii_lowercase v)

-- what each operator asks of the value
abbrev pub op_test : Op → List ℕ → List ℕ → Bool
op_test op.Exists value v = true
op_test op.Equals value v = bytes_eq value v
op_test op.Word value v = word_test value v
op_test op.Dash value v = dash_test value v
op_test op.Prefix value v = prefix_test value v
op_test op.Suffix value v = suffix_test value v
op_test op.Substring value v = substring_test value v

-- e has the attribute that the selector names, with a value as the operator asks
abbrev pub attribute_holds : Document → Dialect → List ℕ → Op → List ℕ → ℕ → Bool
attribute_holds doc dialect name o v e = has_value doc e (folded dialect name) (λ value. op_test o value v)
