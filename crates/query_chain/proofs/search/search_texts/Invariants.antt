use Rattle.std.proofs.Common.{◌≡◌, take}
use Rattle.std.specs.Prelude.{flat_map}
use Rattle.std.specs.Str.{chars}
use Rattle.regex.specs.Strings.{regex_pattern, regex_source, matcher_pattern}
use Rattle.query_chain.specs.inner.Found.{IsNew, Adds}
use Rattle.query_chain.specs.Patterns.{found_texts}
use Rattle.query_chain.proofs.search.search_texts.Given as goal

abbrev pub invariant-loop-text : goal.invariant-loop-text
invariant-loop-text l = record {
  same : matcher_pattern l.matcher ≡ regex_pattern l.regex;
  fresh : IsNew l.initial.found;
  adds : Adds l.limits l.initial.found l.found (flat_map (found_texts (chars (regex_source l.regex))) (take l.text-index l.texts));
}
