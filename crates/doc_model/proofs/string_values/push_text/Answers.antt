use Rattle.std.proofs.Common.{◌≡◌, ◌++◌, [], true, cond, string_bytes, ap, sym, ◌∙◌}
use Rattle.std.specs.Str.{chars}
use Rattle.doc_model.specs.Document.{row, is_text}
use Rattle.doc_model.proofs.Texts.{pushed_chars, pushed_utf8}
use Rattle.doc_model.proofs.string_values.push_text.Goals as goal

pub returns-in_ok-push_str-clause-chars : goal.returns-in_ok-push_str-clause-chars
returns-in_ok-push_str-clause-chars g c =
    let doc = g.T.Tree.document c.args.tree.now in
    let kind : is_text doc c.args.y ≡ true = sym c.is_text.ensures ∙ c.if-is_text.true in
    pushed_chars (string_bytes c.args.text.now) (string_bytes c.push_str.new.self) c.text.result.now (row doc c.args.y).text c.requires.utf8 c.in_ok-push_str.ensures.bytes c.text.ensures.chars
    ∙ ap (λ b. chars (string_bytes c.args.text.now) ++ cond b (row doc c.args.y).text []) (sym kind)

pub returns-in_ok-push_str-clause-utf8 : goal.returns-in_ok-push_str-clause-utf8
returns-in_ok-push_str-clause-utf8 g c = pushed_utf8 (string_bytes c.args.text.now) (string_bytes c.push_str.new.self) c.text.result.now c.requires.utf8 c.text.utf8 c.in_ok-push_str.ensures.bytes
