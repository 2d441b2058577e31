-- The attributes of a start tag, by their places in the text (HTML, section 13.1.2.3).
use Rattle.std.specs.Prelude.{◌≡◌, ℕ, ◌+◌, ◌-◌, true, false, List, [], ◌∷◌, length, slice_index, ◌==◌, ◌&&◌, nat_le, nat_lt, if◌then◌else◌}
use Rattle.text_base.specs.Text.{run_end, is_space5, is_not_byte}
use Rattle.html_lexer.specs.Kinds.{is_gap, is_attr_byte, is_bare_byte}
use Rattle.html_lexer.specs.declared.tags.Attribute.{Attribute}
use Rattle.html_lexer.specs.declared.tags.AttrStep.{AttrStep}
use Rattle.html_lexer.specs.declared.tags.AttrStep.TheVariants.{Reads, Closes, Refuses}
use Rattle.text_base.specs.declared.reasons.PageReason.TheVariants.{BadTag, BadAttribute}

-- the attribute whose value stands in quotes, which open at v
abbrev pub quoted : List ℕ → ℕ → ℕ → ℕ → AttrStep
quoted text name name_to v =
    let q = run_end (is_not_byte (slice_index text v)) text (v + 1) in
    if nat_lt q (length text) then Reads (record { name = name; name_to = name_to; value = v + 1; value_to = q; to = q + 1 }) else Refuses BadTag

-- the attribute whose value begins at v
abbrev pub valued : List ℕ → ℕ → ℕ → ℕ → AttrStep
valued text name name_to v =
    if slice_index text v == 34 then quoted text name name_to v
    else (if slice_index text v == 39 then quoted text name name_to v
    else (let e = run_end is_bare_byte text v in Reads (record { name = name; name_to = name_to; value = v; value_to = e; to = e })))

-- the attribute that begins at k
abbrev pub named : List ℕ → ℕ → AttrStep
named text k =
    let n = run_end is_attr_byte text k in
    let m = run_end is_space5 text n in
    if slice_index text m == 61 then valued text k n (run_end is_space5 text (m + 1))
    else Reads (record { name = k; name_to = n; value = n; value_to = n; to = n })

-- What stands in a start tag at i, where its name or an attribute has ended. After spaces and slashes the tag
-- closes, or an attribute begins.
abbrev pub attr_at : List ℕ → ℕ → AttrStep
attr_at text i =
    let k = run_end is_gap text i in
    if slice_index text k == 62 then
    (if nat_lt i k && (slice_index text (k - 1) == 47)
    then Closes (k - 1) (k + 1) true
    else Closes k (k + 1) false)
    else (if nat_le (length text) k then Refuses BadTag
    else (if is_attr_byte (slice_index text k) then named text k
    else Refuses BadAttribute))

-- the tag reads these attributes from i on, and then closes or is refused
abbrev pub TagReads : List ℕ → ℕ → List Attribute → AttrStep → Type 0
TagReads text i [] (Reads a) = ⊥
TagReads text i [] (Closes attrs_to to slash) = attr_at text i ≡ Closes attrs_to to slash
TagReads text i [] (Refuses reason) = attr_at text i ≡ Refuses reason
TagReads text i (a ∷ attributes) out = (attr_at text i ≡ Reads a) × TagReads text a.to attributes out

-- what the start tag comes to, from i on
abbrev pub TagComesTo : List ℕ → ℕ → AttrStep → Type 0
TagComesTo text i out = (attributes : List Attribute) × TagReads text i attributes out
