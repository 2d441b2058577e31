-- The functions of XPath 1.0, section 4.
use Rattle.std.specs.Prelude.{ℕ, Bool, true, false, ◌&&◌, ◌||◌, ◌==◌, not, List, [], ◌∷◌, ◌++◌, filter, map, reverse, length, flat_map, slice_index_or, codes, pos, encode_utf8_all}
use Rattle.std.specs.List.{list_any, fold}
use Rattle.std.specs.Char.{to_ascii_lowercase}
use Rattle.std.specs.Str.{bytes_eq}
use Rattle.doc_model.specs.Attributes.{is_attribute_of, has_id}
use Rattle.doc_model.specs.Document.{Document, row, rows, below}
use Rattle.doc_model.specs.StringValue.{string_value}
use Rattle.test_registry.specs.Meets.{meets}
use Rattle.text_base.specs.Strings.{starts_with, contains}
use Rattle.xpath_values.specs.declared.value.XNum.{XNum}
use Rattle.xpath_values.specs.declared.value.XNum.TheVariants.{Whole}
use Rattle.xpath_values.specs.declared.value.Value.{Value}
use Rattle.xpath_values.specs.declared.value.Value.TheVariants.{Nodes, Num, Str, Bool as Truth}
use Rattle.xpath_values.specs.Numbers.{whole, num_add, to_number}
use Rattle.xpath_values.specs.Strings.{str_before, str_after, substring_from, substring_of, words, normalized, translated}
use Rattle.xpath_parser.specs.declared.expression.Func.{Func}
use Rattle.xpath_parser.specs.declared.expression.Func.TheVariants as f
use Rattle.xpath_parser.specs.Conversions.{rows_of, truth_of, text_of, number_of, is_any}

-- where an expression is evaluated
pub record Context : Type 0 where
  pub row : ℕ
  pub position : ℕ
  pub size : ℕ

-- the i-th argument, or what stands for it where it is missing
abbrev pub arg : ℕ → List Value → Value → Value
arg i vs other = slice_index_or vs i other

module _ (doc : Document) where
  -- the attributes of y with that name, of which a document has at most one
  abbrev pub attributes_named : List ℕ → ℕ → List ℕ
  attributes_named name y = filter (is_attribute_of doc y name) (rows doc)

  abbrev pub first_name : List ℕ → List ℕ
  first_name [] = []
  first_name (x ∷ xs) = (row doc x).name

  abbrev pub is_first : ℕ → List ℕ → Bool
  is_first y [] = false
  is_first y (x ∷ xs) = x == y

  -- y is the first element with that id
  abbrev pub is_id : List ℕ → ℕ → Bool
  is_id word y = is_first y (filter (has_id doc word) (rows doc))

  abbrev pub id_words : Value → List (List ℕ)
  id_words (Nodes xs) = flat_map (λ x. words (string_value doc x)) xs
  id_words (Num n) = words (text_of doc (Num n))
  id_words (Str s) = words s
  id_words (Truth b) = words (text_of doc (Truth b))

  abbrev pub ids : Value → List ℕ
  ids v = filter (λ y. list_any (λ word. is_id word y) (id_words v)) (rows doc)

  -- the language is x, or begins with x and `-`, letter case ignored
  abbrev pub is_language : List ℕ → List ℕ → Bool
  is_language x tongue =
      let low = map to_ascii_lowercase tongue in
      let wanted = map to_ascii_lowercase x in
      bytes_eq low wanted || starts_with low (wanted ++ codes "-")

  abbrev pub language_of : List ℕ → List ℕ → Bool
  language_of x [] = false
  language_of x (z ∷ zs) = is_language x (row doc z).text

  abbrev pub language_at : List ℕ → List ℕ → Bool
  language_at x [] = false
  language_at x (y ∷ ys) = language_of x (attributes_named (codes "xml:lang") y)

  -- the nearest row, from c upwards, that has the attribute decides
  abbrev pub lang : List ℕ → ℕ → Bool
  lang x c = language_at x (reverse (filter (λ y. ((y == c) || below doc y c) && is_any (attributes_named (codes "xml:lang") y)) (rows doc)))

  abbrev pub sum_of : List ℕ → XNum
  sum_of xs = fold (λ n x. num_add n (to_number (string_value doc x))) (Whole (pos 0)) xs

  abbrev pub concat_of : List Value → List ℕ
  concat_of vs = flat_map (text_of doc) vs

  -- the third argument of `substring` may be missing
  abbrev pub substring_by : List ℕ → List Value → List ℕ
  substring_by s [] = []
  substring_by s (a ∷ []) = substring_from s (number_of doc a)
  substring_by s (a ∷ n ∷ more) = substring_of s (number_of doc a) (number_of doc n)

  abbrev pub substring_at : List Value → List ℕ
  substring_at [] = []
  substring_at (v ∷ vs) = substring_by (text_of doc v) vs

  -- the function's value; a missing argument is the context row alone
  abbrev pub called : Func → List Value → Context → Value
  called f.Last vs c = Num (whole (pos c.size))
  called f.Position vs c = Num (whole (pos c.position))
  called f.Count vs c = Num (whole (pos (length (rows_of (arg 0 vs (Nodes []))))))
  called f.Id vs c = Nodes (ids (arg 0 vs (Nodes [])))
  called f.LocalName vs c = Str (first_name (rows_of (arg 0 vs (Nodes (c.row ∷ [])))))
  called f.NamespaceUri vs c = Str []
  called f.Name vs c = Str (first_name (rows_of (arg 0 vs (Nodes (c.row ∷ [])))))
  called f.Str vs c = Str (text_of doc (arg 0 vs (Nodes (c.row ∷ []))))
  called f.Concat vs c = Str (concat_of vs)
  called f.StartsWith vs c = Truth (starts_with (text_of doc (arg 0 vs (Nodes []))) (text_of doc (arg 1 vs (Nodes []))))
  called f.Contains vs c = Truth (contains (text_of doc (arg 0 vs (Nodes []))) (text_of doc (arg 1 vs (Nodes []))))
  called f.SubstringBefore vs c = Str (str_before (text_of doc (arg 0 vs (Nodes []))) (text_of doc (arg 1 vs (Nodes []))))
  called f.SubstringAfter vs c = Str (str_after (text_of doc (arg 0 vs (Nodes []))) (text_of doc (arg 1 vs (Nodes []))))
  called f.Substring vs c = Str (substring_at vs)
  called f.StringLength vs c = Num (whole (pos (length (text_of doc (arg 0 vs (Nodes (c.row ∷ [])))))))
  called f.NormalizeSpace vs c = Str (normalized (text_of doc (arg 0 vs (Nodes (c.row ∷ [])))))
  called f.Translate vs c = Str (translated (text_of doc (arg 0 vs (Nodes []))) (text_of doc (arg 1 vs (Nodes []))) (text_of doc (arg 2 vs (Nodes []))))
  called f.Boolean vs c = Truth (truth_of (arg 0 vs (Nodes [])))
  called f.Not vs c = Truth (not (truth_of (arg 0 vs (Nodes []))))
  called f.True vs c = Truth true
  called f.False vs c = Truth false
  called f.Lang vs c = Truth (lang (text_of doc (arg 0 vs (Nodes []))) c.row)
  called f.Number vs c = Num (number_of doc (arg 0 vs (Nodes (c.row ∷ []))))
  called f.Sum vs c = Num (sum_of (rows_of (arg 0 vs (Nodes []))))
  called f.Floor vs c = Num (number_of doc (arg 0 vs (Nodes [])))
  called f.Ceiling vs c = Num (number_of doc (arg 0 vs (Nodes [])))
  called f.Round vs c = Num (number_of doc (arg 0 vs (Nodes [])))
  called (f.Stored kind) vs c = Truth (meets kind (encode_utf8_all (text_of doc (arg 0 vs (Nodes [])))) (encode_utf8_all (text_of doc (arg 1 vs (Nodes [])))))
