-- Values that a comparison sees as one value that is no node-set, or as nothing.
use Rattle.std.specs.Prelude.{◌≡◌, Bool, false, [], ◌∷◌}
use Rattle.doc_model.specs.Document.{Document}
use Rattle.doc_model.specs.StringValue.{string_value}
use Rattle.xpath_values.specs.declared.value.Compare.{Compare}
use Rattle.xpath_values.specs.declared.value.Value.{Value}
use Rattle.xpath_values.specs.declared.value.Value.TheVariants.{Nodes, Num, Str, Bool as Truth}
use Rattle.xpath_values.specs.Atoms.{plain_of}
use Rattle.xpath_values.specs.Compares.{Plain, num, chars, plain_fits}
use Rattle.xpath_eval.specs.declared.quick.Side.{Side}
use Rattle.xpath_eval.specs.declared.quick.Side.TheVariants.{Nothing, One}

-- a number, a text or a node-set of one row, by its string value
abbrev pub IsOne : Document → Value → Plain → Type 0
IsOne doc (Nodes []) p = ⊥
IsOne doc (Nodes (x ∷ [])) p = chars (string_value doc x) ≡ p
IsOne doc (Nodes (x ∷ y ∷ xs)) p = ⊥
IsOne doc (Num n) p = num n ≡ p
IsOne doc (Str s) p = chars s ≡ p
IsOne doc (Truth b) p = ⊥

-- the value is seen so by a comparison with another such value
abbrev pub IsSide : Document → Value → Side → Type 0
IsSide doc v Nothing = v ≡ Nodes []
IsSide doc v (One a) = IsOne doc v (plain_of a)

-- with nothing no comparison holds
abbrev pub sides_fit : Compare → Side → Side → Bool
sides_fit c Nothing b = false
sides_fit c (One p) Nothing = false
sides_fit c (One p) (One q) = plain_fits c (plain_of p) (plain_of q)
