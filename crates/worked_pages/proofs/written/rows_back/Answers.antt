use Rattle.worked_pages.proofs.written.rows_back.Goals as goal

pub read_back-requires-clause-builds : goal.read_back-requires-clause-builds
read_back-requires-clause-builds c = (c.args.page.now, (c.utf8.page, c.in-Ok.ensures.ok))
