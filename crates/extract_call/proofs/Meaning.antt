-- The XPath of each selector of a command keeps the selector's meaning.
use Rattle.std.proofs.Common.{◌≡◌, refl, ℕ, List, map, subst, sym, Option, Some, None, codes, string_bytes, []}
use Rattle.std.specs.Prelude.{IfSome, String}
use Rattle.std.specs.List.{AllByRecursion}
use Rattle.std.specs.Str.{IsUtf8}
use Rattle.std.specs.declared.alloc.Global.{Global}
use Rattle.css_selectors.specs.declared.selector.Dialect.{Dialect}
use Rattle.extract_call.specs.Below.{Below}
use Rattle.extract_call.specs.Bulk.{bulk_script}
use Rattle.extract_call.specs.Selectors.{IsSelectorOf, IsKept}
use Rattle.extract_call.specs.Words.{Command, css, run, bulk, clean, IsWords, read, dialect_word}
use Rattle.extract_call.proofs.Forms.{words_read}
use Rattle.extract_call.proofs.Utf8.{words_utf8, third_word, script_word_is, bulk_script_is}

module _ (below : Below) where
  kept_of : (d : Dialect) (text : List ℕ) → IsUtf8 text → IsKept d text
  kept_of d text utf8 list accepted short = below.keeps_meaning d text list utf8 accepted short

  selector_utf8 : (words : List (List ℕ)) (command : Command) → AllByRecursion IsUtf8 words → IsWords command words → (d : Dialect) (text : List ℕ) → IsSelectorOf command d text → IsUtf8 text
  selector_utf8 words (css e s) utf8 is d text h = subst IsUtf8 (sym h.1) (third_word words (codes "css") (dialect_word e) s [] utf8 is)
  selector_utf8 words (run e s names) utf8 is d text h = below.selectors_are_texts s text (script_word_is words e s names utf8 is.0) h.1
  selector_utf8 words (bulk n) utf8 is d text h = below.selectors_are_texts bulk_script text bulk_script_is h.1
  selector_utf8 words (clean page) utf8 is d text h = absurd h

  pub selectors_kept : (words : List (String Global)) → IfSome (read (map string_bytes words)) (λ command. (d : Dialect) (text : List ℕ) → IsSelectorOf command d text → IsKept d text)
  selectors_kept words = by_said (read (map string_bytes words)) refl
    where
      by_said : (said : Option Command) → read (map string_bytes words) ≡ said → IfSome said (λ command. (d : Dialect) (text : List ℕ) → IsSelectorOf command d text → IsKept d text)
      by_said None e = tt
      by_said (Some command) e = λ d text h. kept_of d text (selector_utf8 (map string_bytes words) command (words_utf8 words) ((words_read (map string_bytes words) command).0 e) d text h)
