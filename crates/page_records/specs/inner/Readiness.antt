-- Entries that are ready to run.
use Rattle.page_records.specs.declared.entries.ReadyKind.{ReadyKind}
use Rattle.page_records.specs.declared.entries.ReadyKind.TheVariants as left
use Rattle.page_records.specs.Records.{EntryTask, plain, refuses, each}

-- the task of what is left of an entry
abbrev pub entry_task : ReadyKind → EntryTask
entry_task (left.Plain task) = plain task
entry_task (left.Refused why) = refuses why
entry_task (left.Each rows fields) = each rows fields.items
