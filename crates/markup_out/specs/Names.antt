-- Elements whose markup is told by their names.
use Rattle.std.specs.Prelude.{ℕ, Bool, List}
use Rattle.text_base.specs.Strings.{is_among}
unfoldable pub use Rattle.html_lexer.specs.Names.{void_names, literal_names, newline_names}

-- elements with no content and no end tag
abbrev pub is_void : List ℕ → Bool
is_void name = is_among name void_names

-- elements whose texts are written as they are
abbrev pub is_raw : List ℕ → Bool
is_raw name = is_among name literal_names

-- elements whose content may begin with a newline that does not count
abbrev pub takes_newline : List ℕ → Bool
takes_newline name = is_among name newline_names
