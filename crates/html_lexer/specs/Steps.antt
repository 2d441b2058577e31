-- What begins at a place of a page.
use Rattle.std.specs.Prelude.{◌≡◌, ℕ, ◌+◌, ◌<◌, Bool, true, List, length, slice_index, slice_range, ◌==◌, ◌&&◌, ◌||◌, nat_le, nat_lt, if◌then◌else◌, codes}
use Rattle.std.specs.Bool.{MatchBool}
use Rattle.text_base.specs.Text.{run_end, find_where, begins_with, is_not_byte, is_space5, is_letter}
use Rattle.text_base.specs.declared.reasons.PageReason.TheVariants.{BadTag, BadComment, BadMarkup}
use Rattle.html_lexer.specs.Kinds.{is_name_byte, is_gap}
use Rattle.html_lexer.specs.Names.{is_raw, is_escapable, is_plaintext, has_letters, closes}
use Rattle.html_lexer.specs.Tags.{TagComesTo}
use Rattle.html_lexer.specs.declared.tags.AttrStep.{AttrStep}
use Rattle.html_lexer.specs.declared.tags.AttrStep.TheVariants.{Reads, Closes, Refuses}
use Rattle.html_lexer.specs.declared.steps.TokenAt.TheVariants.{Start, End, Text, Comment, Doctype}
use Rattle.html_lexer.specs.declared.steps.Step.{Step}
use Rattle.html_lexer.specs.declared.steps.Step.TheVariants.{Gives, Fails}

-- a tag, a comment or other markup begins: `<` and a letter, `/`, `!` or `?`
abbrev pub is_opener : ℕ → Bool
is_opener c = is_letter c || (c == 47) || (c == 33) || (c == 63)

abbrev pub opens : List ℕ → Bool
opens s = (slice_index s 0 == 60) && is_opener (slice_index s 1)

-- An end tag at i: `</`, a name that a letter begins, white space, and `>`.
abbrev pub end_tag_at : List ℕ → ℕ → Step
end_tag_at text i =
    let n = run_end is_name_byte text (i + 2) in
    let m = run_end is_space5 text n in
    if is_letter (slice_index text (i + 2)) && (slice_index text m == 62) then Gives (End n (m + 1)) else Fails BadTag

-- a list has `--!>` somewhere
abbrev pub has_bang_end : List ℕ → Bool
has_bang_end s = nat_lt (find_where (begins_with (codes "--!>")) s 0) (length s)

-- A comment whose text begins at t. It is refused where `>` or `->` comes first, where it has no end, and where its
-- text has `--!>`.
abbrev pub comment_at : List ℕ → ℕ → Step
comment_at text t =
    let e = find_where (begins_with (codes "-->")) text t in
    if slice_index text t == 62 then Fails BadComment
    else (if (slice_index text t == 45) && (slice_index text (t + 1) == 62) then Fails BadComment
    else (if nat_le (length text) e then Fails BadComment
    else (if has_bang_end (slice_range text t e) then Fails BadComment
    else Gives (Comment t e (e + 3)))))

-- where the first `>` from i on stands, or the text's length
abbrev pub bracket : List ℕ → ℕ → ℕ
bracket text i = run_end (is_not_byte 62) text i

-- a doctype at i, up to the first `>`
abbrev pub doctype_at : List ℕ → ℕ → Step
doctype_at text i = if nat_lt (bracket text i) (length text) then Gives (Doctype (bracket text i + 1)) else Fails BadMarkup

-- a comment that `<?` begins, from the `?` up to the first `>`
abbrev pub query_at : List ℕ → ℕ → Step
query_at text i =
    if nat_lt (bracket text (i + 1)) (length text) then Gives (Comment (i + 1) (bracket text (i + 1)) (bracket text (i + 1) + 1)) else Fails BadMarkup

-- what `<!` begins at i
abbrev pub declaration_at : List ℕ → ℕ → Step
declaration_at text i =
    if (slice_index text (i + 2) == 45) && (slice_index text (i + 3) == 45) then comment_at text (i + 4)
    else (if has_letters text (i + 2) (codes "doctype") then doctype_at text i else Fails BadMarkup)

-- what begins at i, where no start tag does
abbrev pub other_at : List ℕ → ℕ → Step
other_at text i =
    if (slice_index text i == 60) && (slice_index text (i + 1) == 47) then end_tag_at text i
    else (if (slice_index text i == 60) && (slice_index text (i + 1) == 33) then declaration_at text i
    else (if (slice_index text i == 60) && (slice_index text (i + 1) == 63) then query_at text i
    else Gives (Text (find_where opens text i) true)))

-- a start tag begins at i
abbrev pub starts_at : List ℕ → ℕ → Bool
starts_at text i = (slice_index text i == 60) && is_letter (slice_index text (i + 1))

-- the start tag of this name, which ends at n, and which comes to this
abbrev pub start_of : List ℕ → ℕ → AttrStep → Step
start_of name n (Reads a) = Fails BadTag
start_of name n (Closes attrs_to to slash) = if is_plaintext name || (slash && is_raw name) then Fails BadTag else Gives (Start n attrs_to to slash)
start_of name n (Refuses reason) = Fails reason

-- the start tag at i, whose name ends at n
abbrev pub StartAt : List ℕ → ℕ → ℕ → Step → Type 0
StartAt text i n step =
    MatchBool (is_gap (slice_index text n) || (slice_index text n == 62))
    ((out : AttrStep) × TagComesTo text n out × (step ≡ start_of (slice_range text (i + 1) n) n out))
    (step ≡ Fails BadTag)

-- what begins at i, outside raw text
abbrev pub MarkupAt : List ℕ → ℕ → Step → Type 0
MarkupAt text i step = MatchBool (starts_at text i) (StartAt text i (run_end is_name_byte text (i + 1)) step) (step ≡ other_at text i)

-- where the raw text ends that begins at i after a start tag of this name, and i after any other
abbrev pub raw_end : List ℕ → List ℕ → ℕ → ℕ
raw_end text name i = if is_raw name then find_where (closes name) text i else i

-- What begins at i, before the text's end, where the token before is a start tag of this name, or no start tag and the
-- name is empty.
abbrev pub StepAt : List ℕ → List ℕ → ℕ → Step → Type 0
StepAt text name i step =
    (i < length text)
    × MatchBool (nat_lt i (raw_end text name i)) (step ≡ Gives (Text (raw_end text name i) (is_escapable name))) (MarkupAt text i step)
