-- Files in memory.
use Rattle.std.specs.Prelude.{ℕ, zero, suc, List, [], ◌∷◌, map}
use Rattle.std.specs.Str.{encode_utf8_all}
use Rattle.io_edges.specs.declared.page_file.PageFile.{PageFile}

-- the names, each in UTF-8, with their bytes
abbrev pub told_of : List PageFile → List (List ℕ × List ℕ)
told_of files = map (λ f. (encode_utf8_all f.name, f.bytes)) files

-- the bytes of the file at this place, and none past the last
abbrev pub bytes_at : List PageFile → ℕ → List ℕ
bytes_at [] i = []
bytes_at (f ∷ fs) zero = f.bytes
bytes_at (f ∷ fs) (suc i) = bytes_at fs i
