-- The two words of a refusal, as `extract` prints them with a point between.
use Rattle.std.specs.Prelude.{ℕ, List, codes}
use Rattle.text_base.specs.Reasons.{page_word, script_word, selector_word, xpath_word}
use Rattle.query_script.specs.Words.{first_word, second_word}
use Rattle.refusal_texts.specs.declared.refusal.Refusal.{Refusal}
use Rattle.refusal_texts.specs.declared.refusal.Refusal.TheVariants as refusal

abbrev pub family : Refusal → List ℕ
family (refusal.Css f) = codes "css"
family (refusal.XPath f) = codes "xpath"
family (refusal.Page f) = codes "page"
family (refusal.Field f) = first_word f
family (refusal.Script f) = codes "script"

abbrev pub name : Refusal → List ℕ
name (refusal.Css f) = selector_word f
name (refusal.XPath f) = xpath_word f
name (refusal.Page f) = page_word f
name (refusal.Field f) = second_word f
name (refusal.Script f) = script_word f
