use Rattle.std.proofs.Common.{◌≡◌, Bool, Result, Ok, Err, IfOk, sym, ◌∙◌, ap}
use Rattle.std.specs.Str.{chars}
use Rattle.doc_model.specs.Document.{Document}
use Rattle.xpath_parser.specs.Functions.{is_language}
use Rattle.xpath_functions.proofs.languages.speaks.Goals as goal

in_document : {E : Type 0} (doc : Document) (f : Document → Bool) (b : Bool) (r : Result Bool E) → IfOk r (λ v. (d : Document) → v ≡ f d) → f doc ≡ b → IfOk r (λ v. v ≡ b)
in_document doc f b (Ok v) h e = h doc ∙ e
in_document doc f b (Err x) h e = tt

pub returns-in-Some : goal.returns-in-Some
returns-in-Some g c =
    let doc = g.T.Tree.document c.args.tree.now in
    in_document doc (λ d. is_language d (chars c.args.wanted.now) (chars c.text.result.now)) _ c.is_language.result c.is_language.ensures
    (ap (is_language doc (chars c.args.wanted.now)) c.text.ensures.chars ∙ sym (c.in-Some.ensures.says (chars c.args.wanted.now)))
