use Rattle.std.proofs.Common.{◌≡◌, ◌++◌, codes, string_bytes}
use Rattle.std.specs.Prelude.{flat_map}
use Rattle.std.specs.List.{range_with_len}
use Rattle.extract_call.specs.Bulk.{bulk_item}
use Rattle.extract_call.proofs.bulk.bulk_page.Given as goal

abbrev pub invariant-loop-i : goal.invariant-loop-i
invariant-loop-i l = string_bytes l.page ≡ codes "<!DOCTYPE html><html><head><title>bulk</title></head><body><ul>" ++ flat_map bulk_item (range_with_len 1 l.i)
