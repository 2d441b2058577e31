use Rattle.std.proofs.Common.{◌≡◌, ℕ, ◌++◌, List, [], Option, Some, None, sym, ◌∙◌, ap, option_map, drop, take, take-append-drop, append_assoc}
use Rattle.std.specs.Prelude.{MatchOption}
use Rattle.std.proofs.lemmas.List.{append-nil}
use Rattle.io_edges.specs.Pages.{page, IsDone, LeavesEnd}
use Rattle.io_edges.specs.Reading.{IsReading}

-- where nothing is left, that is an end of any page
end_of : (found : Option (List ℕ)) (rest : List ℕ) → rest ≡ [] → MatchOption found (rest ≡ []) (λ bytes. (got : List ℕ) × (bytes ≡ got ++ rest))
end_of None rest e = e
end_of (Some bytes) rest e = (bytes, sym (append-nil bytes) ∙ ap (λ r. bytes ++ r) (sym e))

pub leaves_end_done : (told : Option (List (List ℕ × List ℕ))) (name : List ℕ) (left : Option (List ℕ)) → IsDone left → LeavesEnd told name left
leaves_end_done told name None d = tt
leaves_end_done None name (Some rest) d = tt
leaves_end_done (Some pages) name (Some rest) d = end_of (page pages name) rest d

-- a front of the page was read, so what is left is an end of it
rest_of : (found : Option (List ℕ)) (got rest : List ℕ) → found ≡ Some (got ++ rest) → MatchOption found (rest ≡ []) (λ bytes. (front : List ℕ) × (bytes ≡ front ++ rest))
rest_of None got rest e = cc
rest_of (Some bytes) got rest e = (got, cc)

-- while the page is read, what is left is an end of it
pub leaves_end_reading : (told : Option (List (List ℕ × List ℕ))) (name : List ℕ) (left : Option (List ℕ)) (got : List ℕ) → IsReading told name left got → LeavesEnd told name left
leaves_end_reading told name None got r = tt
leaves_end_reading None name (Some rest) got r = tt
leaves_end_reading (Some pages) name (Some rest) got r = rest_of (page pages name) got rest (r.2 ∙ cc)

-- the same after a read of n more
pub leaves_end_more : (told : Option (List (List ℕ × List ℕ))) (name : List ℕ) (left : Option (List ℕ)) (got : List ℕ) (n : ℕ) → IsReading told name left got → LeavesEnd told name (option_map (drop n) left)
leaves_end_more told name None got n r = tt
leaves_end_more None name (Some rest) got n r = tt
leaves_end_more (Some pages) name (Some rest) got n r =
    rest_of (page pages name) (got ++ take n rest) (drop n rest) (r.2 ∙ split)
  where
    split : Some (got ++ r.0) ≡ Some ((got ++ take n rest) ++ drop n rest)
    split = let h : r.0 ≡ rest = cc in rw h (ap Some (ap (λ x. got ++ x) (sym (take-append-drop n rest)) ∙ sym (append_assoc got (take n rest) (drop n rest))))
