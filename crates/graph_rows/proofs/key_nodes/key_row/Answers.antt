-- Each call gets the tables that the ones before made.
use Rattle.sheet.proofs.CheckedLaws.{checked_counts, checked_readable}
use Rattle.graph_rows.proofs.key_nodes.key_row.Goals as goal

pub storage_flags-storage-requires : goal.storage_flags-storage-requires
storage_flags-storage-requires c = (checked_counts _ c.requires).vertices

pub key_flags-keys-requires : goal.key_flags-keys-requires
key_flags-keys-requires c = (checked_readable _ c.requires, c.storage_flags-storage.ensures)

pub key_place-requires : goal.key_place-requires
key_place-requires c = ((checked_counts _ c.requires).vertices, c.key_flags-keys.ensures)
