-- Texts of versions as they stand in a tree: in their order, which is a total one, and borrowed.
use Rattle.std.specs.Cmp.{IsTotalOrder, on_total, then_total, Lexicographic.options_total}
use Rattle.std.proofs.lemmas.Cmp.{nat_list_cmp_total}
use Rattle.dir_values.{proofs.VersionOrders.versions_total, specs.Versions.version_of}
use Rattle.field_votes.specs.Versions.{text_order}

-- texts of versions are in a total order
pub texts_total : IsTotalOrder text_order
texts_total = then_total (on_total version_of (options_total versions_total)) nat_list_cmp_total
