use Rattle.std.proofs.Common.{◌≡◌, ◌++◌, take, string_bytes, map}
use Rattle.std.specs.List.{AllByRecursion, flat_map}
use Rattle.css_printed.specs.TestTexts.{choice, path_text, compound_text, part_steps, relative_text, simple_text}
use Rattle.css_translate.specs.inner.Read.{IsReadSimple, IsReadCompound, IsReadPart, IsReadRelative}
use Rattle.css_translate.proofs.Said.{is_nil}
use Rattle.css_translate.proofs.+printing.Given as goal

abbrev pub invariant-choices::push_simples-loop-simple : goal.invariant-choices::push_simples-loop-simple
invariant-choices::push_simples-loop-simple l = record {
  text : string_bytes l.out ≡ string_bytes l.fn.out ++ flat_map (λ x. simple_text l.dialect x l.around) (take l.simple-index l.simples);
  texts : AllByRecursion IsReadSimple (take l.simple-index l.simples);
}

abbrev pub invariant-choices::push_choice-loop-compound : goal.invariant-choices::push_choice-loop-compound
invariant-choices::push_choice-loop-compound l = record {
  text : string_bytes l.out ≡ string_bytes l.fn.out ++ choice (map (λ c. compound_text l.dialect c l.around) (take l.compound-index l.compounds));
  first : l.is_first ≡ is_nil (take l.compound-index l.compounds);
  texts : AllByRecursion IsReadCompound (take l.compound-index l.compounds);
}

abbrev pub invariant-relatives::push_relatives-loop-relative : goal.invariant-relatives::push_relatives-loop-relative
invariant-relatives::push_relatives-loop-relative l = record {
  text : string_bytes l.out ≡ string_bytes l.fn.out ++ choice (map (relative_text l.dialect) (take l.relative-index l.relatives));
  first : l.is_first ≡ is_nil (take l.relative-index l.relatives);
  texts : AllByRecursion IsReadRelative (take l.relative-index l.relatives);
}

abbrev pub invariant-relatives::push_path-loop-part : goal.invariant-relatives::push_path-loop-part
invariant-relatives::push_path-loop-part l = record {
  text : string_bytes l.out ≡ string_bytes l.fn.out ++ path_text (map (part_steps l.dialect) (take l.part-index l.parts));
  first : l.is_first ≡ is_nil (take l.part-index l.parts);
  texts : AllByRecursion IsReadPart (take l.part-index l.parts);
}
