-- The markup of a row, as characters: as it is shown, or, where `back` is true, so that HTML reads it back.
use Rattle.std.specs.Prelude.{ℕ, zero, suc, Bool, true, false, ◌&&◌, ◌==◌, List, [], ◌∷◌, ◌++◌, if◌then◌else◌, flat_map, filter, length, slice_index, codes}
use Rattle.doc_model.specs.declared.Axis.TheVariants as axis
use Rattle.doc_model.specs.declared.Kind.{Kind}
use Rattle.doc_model.specs.declared.Kind.TheVariants.{Root, Element, Attribute, Text, Comment}
use Rattle.doc_model.specs.Axes.{on_axis}
use Rattle.doc_model.specs.Document.{Document, row, rows, is_text}
use Rattle.markup_out.specs.Escapes.{escaped_text, escaped_value}
use Rattle.markup_out.specs.Names.{is_void, is_raw, takes_newline}

-- the rows below x whose parent it is, in document order, attributes left aside
abbrev pub children : Document → ℕ → List ℕ
children doc x = filter (on_axis doc axis.Child x) (rows doc)

abbrev pub attributes : Document → ℕ → List ℕ
attributes doc x = filter (on_axis doc axis.Attribute x) (rows doc)

-- an attribute in its element's start tag
abbrev pub attribute_markup : Bool → Document → ℕ → List ℕ
attribute_markup back doc r = codes " " ++ ((row doc r).name ++ (codes "=\"" ++ (escaped_value back (row doc r).text ++ codes "\"")))

abbrev pub start_tag : Bool → Document → ℕ → List ℕ
start_tag back doc x = codes "<" ++ ((row doc x).name ++ (flat_map (attribute_markup back doc) (attributes doc x) ++ codes ">"))

abbrev pub end_tag : Document → ℕ → List ℕ
end_tag doc x = codes "</" ++ ((row doc x).name ++ codes ">")

-- a text is written as it is where its parent's name says so
abbrev pub text_markup : Bool → Document → ℕ → List ℕ
text_markup back doc x = if is_raw (row doc (row doc x).parent).name then (row doc x).text else escaped_text back (row doc x).text

abbrev pub comment_markup : Document → ℕ → List ℕ
comment_markup doc x = codes "<!--" ++ ((row doc x).text ++ codes "-->")

-- a list of bytes or characters begins with LF
abbrev pub begins_newline : List ℕ → Bool
begins_newline text = slice_index text 0 == 10

-- the first of these rows is a text that begins with LF
abbrev pub newline_first : Document → List ℕ → Bool
newline_first doc [] = false
newline_first doc (y ∷ ys) = is_text doc y && begins_newline (row doc y).text

-- The LF after the start tag of an element that takes one away, where its content begins with one (HTML, section 13.3).
abbrev pub newline : Bool → Document → ℕ → List ℕ
newline back doc x = if back && (takes_newline (row doc x).name && newline_first doc (children doc x)) then 10 ∷ [] else []

-- the markup of a row, where that of its children is `content`
abbrev pub markup_of : Bool → Kind → Document → ℕ → List ℕ → List ℕ
markup_of back Root doc x content = content
markup_of back Element doc x content = start_tag back doc x ++ (if is_void (row doc x).name then [] else newline back doc x ++ (content ++ end_tag doc x))
markup_of back Attribute doc x content = escaped_value back (row doc x).text
markup_of back Text doc x content = text_markup back doc x
markup_of back Comment doc x content = comment_markup doc x

-- the markup of x, down to that many levels
unfoldable pub markup_within : ℕ → Bool → Document → ℕ → List ℕ
markup_within zero back doc x = []
markup_within (suc levels) back doc x = markup_of back (row doc x).kind doc x (flat_map (markup_within levels back doc) (children doc x))

-- The markup of x in either style. Rows stand after their parents, so a document has no more levels than rows.
unfoldable pub styled : Bool → Document → ℕ → List ℕ
styled back doc x = markup_within (length doc) back doc x

-- the markup of x
abbrev pub markup : Document → ℕ → List ℕ
markup doc x = styled false doc x

-- the markup of the root node, to be read back
abbrev pub canonical : Document → List ℕ
canonical doc = styled true doc 0
