-- How far the rows and the open tags grow.
use Rattle.std.proofs.Common.{◌≡◌, ◌+◌, ◌≤◌, List, [], ◌∷◌, length, Bool, true, false, cond, Ok, Err, sym, ap, subst, arith, length-append, eqb, ◌&&◌}
use Rattle.std.specs.Prelude.{not}
use Rattle.std.proofs.lemmas.List.{length-map}
use Rattle.text_base.specs.declared.reasons.PageReason.TheVariants.{StrayEnd, SecondRoot, Deep, TextOutside}
use Rattle.html_reader.specs.Tokens.{Tag, Leaf, text, comment, doctype, Tok, starts, ends, holds}
use Rattle.html_reader.specs.Rows.{flushed, text_rows, row_of_comment, row_of_attribute, tag_rows}
use Rattle.doc_model.specs.Growing.{innermost}
use Rattle.html_reader.specs.inner.Machine.{State, step, opened, held, closed, is_innermost, is_empty, without_first}
use Rattle.html_reader.specs.Forest.{is_white_leaf}
use Rattle.html_reader.specs.Places.{most_open}
use Rattle.html_reader.specs.inner.States.{most_rows}
use Rattle.html_reader.specs.inner.Taking.{size}
use Rattle.html_reader.proofs.StepLemmas.{guard_ok, same_ok}
use Rattle.html_reader.proofs.CalmLemmas.{text_few}

flush_room : (s : State) → length (flushed (innermost s.grown.open_rows) s.grown.sofar) ≤ length s.grown.sofar.rows + 1
flush_room s = omega (arith, length-append s.grown.sofar.rows (text_rows (innermost s.grown.open_rows) s.grown.sofar.waits), text_few (innermost s.grown.open_rows) s.grown.sofar.waits)

open_room : (s : State) (tag : Tag) → size (opened s tag) ≤ size s + (2 + length tag.attrs) + 1
open_room s tag =
    let p = innermost s.grown.open_rows in
    let f = flushed p s.grown.sofar in
    omega (arith, flush_room s, length-append f (tag_rows p (length f) tag), length-map tag.attrs (row_of_attribute (length f)))

leaf_room : (s : State) (leaf : Leaf) → size (held s leaf) ≤ size s + 2 + 1
leaf_room s (text content) = omega arith
leaf_room s (comment content) =
    let p = innermost s.grown.open_rows in
    omega (arith, flush_room s, length-append (flushed p s.grown.sofar) (row_of_comment p content ∷ []))
leaf_room s doctype = omega arith

fewer : (tags : List Tag) → length (without_first tags) ≤ length tags
fewer [] = omega arith
fewer (t ∷ ts) = omega arith

close_room : (s : State) → size (closed s) ≤ size s + 2 + 1
close_room s = omega (arith, flush_room s, fewer s.tags)

end_room : (s new : State) (named : Bool) → cond named (Ok (closed s)) (Err StrayEnd) ≡ Ok new → size new ≤ size s + 2 + 1
end_room s new true h = subst (λ n. size n ≤ size s + 2 + 1) (same_ok _ _ h) (close_room s)
end_room s new false h = cc

pub step_room : (s : State) (t : Tok) (new : State) → step s t ≡ Ok new → size new ≤ size s + most_rows t + 1
step_room s (starts tag) new h =
    let free = guard_ok (not s.rooted.made && (is_empty s.tags && s.rooted.some)) SecondRoot (cond (eqb (length s.tags) (most_open s.rooted.made)) (Err Deep) (Ok (opened s tag))) new h in
    let room = guard_ok (eqb (length s.tags) (most_open s.rooted.made)) Deep (Ok (opened s tag)) new free.1 in
    subst (λ n. size n ≤ size s + (2 + length tag.attrs) + 1) (same_ok (opened s tag) new room.1) (open_room s tag)
step_room s (ends name) new h = end_room s new (is_innermost s.tags name) h
step_room s (holds leaf) new h =
    let free = guard_ok (not s.rooted.made && (is_empty s.tags && not (is_white_leaf leaf))) TextOutside (Ok (held s leaf)) new h in
    subst (λ n. size n ≤ size s + 2 + 1) (same_ok (held s leaf) new free.1) (leaf_room s leaf)

-- a step keeps whether the root is made
pub step_made : (s : State) (t : Tok) (new : State) → step s t ≡ Ok new → new.rooted.made ≡ s.rooted.made
step_made s (starts tag) new h =
    let free = guard_ok (not s.rooted.made && (is_empty s.tags && s.rooted.some)) SecondRoot (cond (eqb (length s.tags) (most_open s.rooted.made)) (Err Deep) (Ok (opened s tag))) new h in
    let room = guard_ok (eqb (length s.tags) (most_open s.rooted.made)) Deep (Ok (opened s tag)) new free.1 in
    ap (λ (x : State). x.rooted.made) (sym (same_ok (opened s tag) new room.1))
step_made s (ends name) new h = by_name (is_innermost s.tags name) h
  where
    by_name : (named : Bool) → cond named (Ok (closed s)) (Err StrayEnd) ≡ Ok new → new.rooted.made ≡ s.rooted.made
    by_name true h = ap (λ (x : State). x.rooted.made) (sym (same_ok (closed s) new h))
    by_name false h = cc
step_made s (holds leaf) new h =
    let free = guard_ok (not s.rooted.made && (is_empty s.tags && not (is_white_leaf leaf))) TextOutside (Ok (held s leaf)) new h in
    ap (λ (x : State). x.rooted.made) (sym (same_ok (held s leaf) new free.1))
