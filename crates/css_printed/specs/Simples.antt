-- How the tests that hold no selectors are printed: each as none, one or several predicates.
use Rattle.std.specs.Prelude.{ℕ, ◌-◌, ◌||◌, if◌then◌else◌, List, ◌++◌, flat_map, map, length, Option, ℤ, pos, codes, encode_utf8_all}
use Rattle.std.specs.Char.{to_ascii_lowercase}
use Rattle.std.specs.Fmt.{decimal}
use Rattle.std.specs.List.{list_any}
use Rattle.text_base.specs.Text.{is_space5}
use Rattle.text_base.specs.Strings.{is_empty}
use Rattle.css_selectors.specs.declared.selector.Dialect.{Dialect}
use Rattle.css_selectors.specs.declared.selector.Dialect.TheVariants.{Generic, Html}
use Rattle.css_selectors.specs.declared.selector.Nth.{Nth}
use Rattle.css_selectors.specs.declared.selector.Nth.TheVariants as nth
use Rattle.css_selectors.specs.declared.selector.Op.{Op}
use Rattle.css_selectors.specs.declared.selector.Op.TheVariants as op
use Rattle.css_selectors.specs.declared.selector.Pseudo.{Pseudo}
use Rattle.css_selectors.specs.declared.selector.Pseudo.TheVariants as pseudo
use Rattle.css_printed.specs.Literals.{literal_text}
use Rattle.css_printed.specs.Names.{element_text}
use Rattle.css_printed.specs.Conditions.{Condition, never, exactly, at_least, at_most, every, conditions}

-- a predicate that holds at no row: no position is 0
abbrev pub nowhere : List ℕ
nowhere = codes "[0]"

-- ---- attributes

-- one of the words of the value: an empty word is none, nor is one with white space
abbrev pub word_text : List ℕ → List ℕ → List ℕ
word_text attribute v =
    if is_empty v || list_any is_space5 v then nowhere else
    codes "[" ++ (attribute ++ (codes " and contains(concat(' ', normalize-space(" ++ (attribute ++ (codes "), ' '), " ++
    (literal_text (codes " " ++ (encode_utf8_all v ++ codes " ")) ++ codes ")]")))))

abbrev pub dash_text : List ℕ → List ℕ → List ℕ
dash_text attribute v =
    codes "[" ++ (attribute ++ (codes " and (" ++ (attribute ++ (codes " = " ++ (literal_text (encode_utf8_all v) ++
    (codes " or starts-with(" ++ (attribute ++ (codes ", " ++ (literal_text (encode_utf8_all v ++ codes "-") ++ codes "))]")))))))))

abbrev pub prefix_text : List ℕ → List ℕ → List ℕ
prefix_text attribute v =
    if is_empty v then nowhere else
    codes "[" ++ (attribute ++ (codes " and starts-with(" ++ (attribute ++ (codes ", " ++ (literal_text (encode_utf8_all v) ++ codes ")]")))))

-- how many characters of v stand behind its first one
abbrev pub behind_first : List ℕ → ℕ
behind_first v = length v - 1

-- the last characters of the value, as many as v has
abbrev pub suffix_text : List ℕ → List ℕ → List ℕ
suffix_text attribute v =
    if is_empty v then nowhere else
    codes "[" ++ (attribute ++ (codes " and substring(" ++ (attribute ++ (codes ", string-length(" ++ (attribute ++ (codes ") - " ++
    (decimal (behind_first v) ++ (codes ") = " ++ (literal_text (encode_utf8_all v) ++ codes "]")))))))))

abbrev pub substring_text : List ℕ → List ℕ → List ℕ
substring_text attribute v =
    if is_empty v then nowhere else
    codes "[" ++ (attribute ++ (codes " and contains(" ++ (attribute ++ (codes ", " ++ (literal_text (encode_utf8_all v) ++ codes ")]")))))

abbrev pub op_text : List ℕ → Op → List ℕ → List ℕ
op_text attribute op.Exists v = codes "[" ++ (attribute ++ codes "]")
op_text attribute op.Equals v = codes "[" ++ (attribute ++ (codes " = " ++ (literal_text (encode_utf8_all v) ++ codes "]")))
op_text attribute op.Word v = word_text attribute v
op_text attribute op.Dash v = dash_text attribute v
op_text attribute op.Prefix v = prefix_text attribute v
op_text attribute op.Suffix v = suffix_text attribute v
op_text attribute op.Substring v = substring_text attribute v

-- ---- positions

-- the siblings that are counted: before the element or after it, all or those of the part's name
abbrev pub siblings_text : Dialect → Option (List ℕ) → Nth → List ℕ
siblings_text dialect element nth.Child = codes "preceding-sibling::*"
siblings_text dialect element nth.LastChild = codes "following-sibling::*"
siblings_text dialect element nth.OfType = codes "preceding-sibling::" ++ element_text dialect element
siblings_text dialect element nth.LastOfType = codes "following-sibling::" ++ element_text dialect element

abbrev pub condition_text : List ℕ → Condition → List ℕ
condition_text siblings never = nowhere
condition_text siblings (exactly n) = codes "[count(" ++ (siblings ++ (codes ") = " ++ (decimal n ++ codes "]")))
condition_text siblings (at_least n) = codes "[count(" ++ (siblings ++ (codes ") >= " ++ (decimal n ++ codes "]")))
condition_text siblings (at_most n) = codes "[count(" ++ (siblings ++ (codes ") <= " ++ (decimal n ++ codes "]")))
condition_text siblings (every n r) = codes "[count(" ++ (siblings ++ (codes ") mod " ++ (decimal n ++ (codes " = " ++ (decimal r ++ codes "]")))))

abbrev pub nth_text : Dialect → Option (List ℕ) → Nth → ℤ → ℤ → List ℕ
nth_text dialect element kind a b = flat_map (condition_text (siblings_text dialect element kind)) (conditions a b)

-- ---- pseudo-classes

-- the elements that can be disabled
abbrev pub control_text : List ℕ
control_text = codes "self::button or self::fieldset or self::input or self::optgroup or self::option or self::select or self::textarea"

-- what only the HTML dialect has
abbrev pub html_text : Dialect → List ℕ → List ℕ
html_text Generic x = nowhere
html_text Html x = x

abbrev pub pseudo_text : Dialect → Option (List ℕ) → Pseudo → List ℕ
pseudo_text dialect element pseudo.OnlyChild = nth_text dialect element nth.Child (pos 0) (pos 1) ++ nth_text dialect element nth.LastChild (pos 0) (pos 1)
pseudo_text dialect element pseudo.OnlyOfType = nth_text dialect element nth.OfType (pos 0) (pos 1) ++ nth_text dialect element nth.LastOfType (pos 0) (pos 1)
pseudo_text dialect element pseudo.Empty = codes "[not(*) and not(text())]"
pseudo_text dialect element pseudo.Root = codes "[not(parent::*)]"
pseudo_text dialect element pseudo.Never = nowhere
pseudo_text dialect element pseudo.Link = html_text dialect (codes "[@href and (self::a or self::area or self::link)]")
pseudo_text dialect element pseudo.Checked =
    html_text dialect (codes "[(@selected and self::option) or (@checked and self::input and (@type = 'checkbox' or @type = 'radio'))]")
pseudo_text dialect element pseudo.Enabled = html_text dialect (codes "[not(@disabled) and (" ++ (control_text ++ codes ")]"))
pseudo_text dialect element pseudo.Disabled = html_text dialect (codes "[@disabled and (" ++ (control_text ++ codes ")]"))

-- ---- languages

-- by XPath's own test, or by the nearest attribute `lang` upwards
abbrev pub lang_text : Dialect → List ℕ → List ℕ
lang_text Generic x = codes "[lang(" ++ (literal_text (encode_utf8_all x) ++ codes ")]")
lang_text Html x =
    codes "[ancestor-or-self::*[@lang][1][starts-with(concat(translate(@lang, 'ABCDEFGHIJKLMNOPQRSTUVWXYZ', 'abcdefghijklmnopqrstuvwxyz'), '-'), " ++
    (literal_text (encode_utf8_all (map to_ascii_lowercase x) ++ codes "-") ++ codes ")]]")
