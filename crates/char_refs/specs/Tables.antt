-- The tables of character references, after HTML's "named character references" and its table of replaced numbers.
use Rattle.std.specs.Prelude.{ℕ, ◌+◌, ◌==◌, cond, List, [], ◌∷◌, ◌++◌, map, Option, Some, None, codes}
use Rattle.std.specs.Str.{bytes_eq}
use denote.Ref.{Bor}

-- the names of the characters that markup needs
abbrev pub five_names : List (List ℕ × ℕ)
five_names =
    (codes "amp", 0x26) ∷ (codes "lt", 0x3c) ∷ (codes "gt", 0x3e) ∷ (codes "quot", 0x22) ∷ (codes "apos", 0x27) ∷ []

-- the names of U+00A0 to U+00FF, in order
abbrev pub latin_names : List (List ℕ)
latin_names =
    codes "nbsp" ∷ codes "iexcl" ∷ codes "cent" ∷ codes "pound" ∷ codes "curren" ∷ codes "yen" ∷ codes "brvbar" ∷ codes "sect" ∷
    codes "uml" ∷ codes "copy" ∷ codes "ordf" ∷ codes "laquo" ∷ codes "not" ∷ codes "shy" ∷ codes "reg" ∷ codes "macr" ∷
    codes "deg" ∷ codes "plusmn" ∷ codes "sup2" ∷ codes "sup3" ∷ codes "acute" ∷ codes "micro" ∷ codes "para" ∷ codes "middot" ∷
    codes "cedil" ∷ codes "sup1" ∷ codes "ordm" ∷ codes "raquo" ∷ codes "frac14" ∷ codes "frac12" ∷ codes "frac34" ∷ codes "iquest" ∷
    codes "Agrave" ∷ codes "Aacute" ∷ codes "Acirc" ∷ codes "Atilde" ∷ codes "Auml" ∷ codes "Aring" ∷ codes "AElig" ∷ codes "Ccedil" ∷
    codes "Egrave" ∷ codes "Eacute" ∷ codes "Ecirc" ∷ codes "Euml" ∷ codes "Igrave" ∷ codes "Iacute" ∷ codes "Icirc" ∷ codes "Iuml" ∷
    codes "ETH" ∷ codes "Ntilde" ∷ codes "Ograve" ∷ codes "Oacute" ∷ codes "Ocirc" ∷ codes "Otilde" ∷ codes "Ouml" ∷ codes "times" ∷
    codes "Oslash" ∷ codes "Ugrave" ∷ codes "Uacute" ∷ codes "Ucirc" ∷ codes "Uuml" ∷ codes "Yacute" ∷ codes "THORN" ∷ codes "szlig" ∷
    codes "agrave" ∷ codes "aacute" ∷ codes "acirc" ∷ codes "atilde" ∷ codes "auml" ∷ codes "aring" ∷ codes "aelig" ∷ codes "ccedil" ∷
    codes "egrave" ∷ codes "eacute" ∷ codes "ecirc" ∷ codes "euml" ∷ codes "igrave" ∷ codes "iacute" ∷ codes "icirc" ∷ codes "iuml" ∷
    codes "eth" ∷ codes "ntilde" ∷ codes "ograve" ∷ codes "oacute" ∷ codes "ocirc" ∷ codes "otilde" ∷ codes "ouml" ∷ codes "divide" ∷
    codes "oslash" ∷ codes "ugrave" ∷ codes "uacute" ∷ codes "ucirc" ∷ codes "uuml" ∷ codes "yacute" ∷ codes "thorn" ∷ codes "yuml" ∷ []

-- names of other symbols
abbrev pub symbol_names : List (List ℕ × ℕ)
symbol_names =
    (codes "OElig", 0x152) ∷ (codes "oelig", 0x153) ∷ (codes "Scaron", 0x160) ∷ (codes "scaron", 0x161) ∷ (codes "Yuml", 0x178) ∷
    (codes "fnof", 0x192) ∷ (codes "circ", 0x2c6) ∷ (codes "tilde", 0x2dc) ∷ (codes "ensp", 0x2002) ∷ (codes "emsp", 0x2003) ∷
    (codes "thinsp", 0x2009) ∷ (codes "zwnj", 0x200c) ∷ (codes "zwj", 0x200d) ∷ (codes "lrm", 0x200e) ∷ (codes "rlm", 0x200f) ∷
    (codes "ndash", 0x2013) ∷ (codes "mdash", 0x2014) ∷ (codes "lsquo", 0x2018) ∷ (codes "rsquo", 0x2019) ∷ (codes "sbquo", 0x201a) ∷
    (codes "ldquo", 0x201c) ∷ (codes "rdquo", 0x201d) ∷ (codes "bdquo", 0x201e) ∷ (codes "dagger", 0x2020) ∷ (codes "Dagger", 0x2021) ∷
    (codes "bull", 0x2022) ∷ (codes "hellip", 0x2026) ∷ (codes "permil", 0x2030) ∷ (codes "lsaquo", 0x2039) ∷ (codes "rsaquo", 0x203a) ∷
    (codes "euro", 0x20ac) ∷ (codes "trade", 0x2122) ∷ (codes "larr", 0x2190) ∷ (codes "uarr", 0x2191) ∷ (codes "rarr", 0x2192) ∷
    (codes "darr", 0x2193) ∷ (codes "minus", 0x2212) ∷ (codes "infin", 0x221e) ∷ (codes "ne", 0x2260) ∷ (codes "le", 0x2264) ∷
    (codes "ge", 0x2265) ∷ []

-- names with numbers that begin here
abbrev pub numbered : ℕ → List (List ℕ) → List (List ℕ × ℕ)
numbered n [] = []
numbered n (name ∷ names) = (name, n) ∷ numbered (n + 1) names

-- all names, each with its character
unfoldable pub names : List (List ℕ × ℕ)
names = five_names ++ (numbered 0xa0 latin_names ++ symbol_names)

-- the numbers that stand for another character than their own
unfoldable pub replaced : List (ℕ × ℕ)
replaced =
    (0x80, 0x20ac) ∷ (0x82, 0x201a) ∷ (0x83, 0x192) ∷ (0x84, 0x201e) ∷ (0x85, 0x2026) ∷ (0x86, 0x2020) ∷
    (0x87, 0x2021) ∷ (0x88, 0x2c6) ∷ (0x89, 0x2030) ∷ (0x8a, 0x160) ∷ (0x8b, 0x2039) ∷ (0x8c, 0x152) ∷
    (0x8e, 0x17d) ∷ (0x91, 0x2018) ∷ (0x92, 0x2019) ∷ (0x93, 0x201c) ∷ (0x94, 0x201d) ∷ (0x95, 0x2022) ∷
    (0x96, 0x2013) ∷ (0x97, 0x2014) ∷ (0x98, 0x2dc) ∷ (0x99, 0x2122) ∷ (0x9a, 0x161) ∷ (0x9b, 0x203a) ∷
    (0x9c, 0x153) ∷ (0x9e, 0x17e) ∷ (0x9f, 0x178) ∷ []

-- the character beside the first entry of this name
abbrev pub char_in : List (List ℕ × ℕ) → List ℕ → Option ℕ
char_in [] name = None
char_in (e ∷ entries) name = cond (bytes_eq e.0 name) (Some e.1) (char_in entries name)

-- the character beside the first entry of this number
abbrev pub given_in : List (ℕ × ℕ) → ℕ → Option ℕ
given_in [] number = None
given_in (e ∷ entries) number = cond (e.0 == number) (Some e.1) (given_in entries number)

-- the character that a name stands for
abbrev pub char_named : List ℕ → Option ℕ
char_named name = char_in names name

-- the other character that a number stands for
abbrev pub given_for : ℕ → Option ℕ
given_for number = given_in replaced number

-- entries without where their names lie in memory
abbrev pub pairs : List (Bor (List ℕ) × ℕ) → List (List ℕ × ℕ)
pairs entries = map (λ (e : Bor (List ℕ) × ℕ). (e.0.now, e.1)) entries
