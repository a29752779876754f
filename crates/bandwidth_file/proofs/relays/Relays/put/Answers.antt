use Rattle.std.proofs.Common.{◌≡◌, ℕ, ◌+◌, List, length, subst}
use Rattle.dir_values.specs.declared.digest.Fingerprint.{Fingerprint}
use Rattle.bandwidth_file.{specs.Lending.{HasRow, one_if_new}, proofs.Rows.{put_is, put_len}}
use Rattle.bandwidth_file.proofs.relays.Relays.put.Goals as goal

pub returns-clause-value : goal.returns-clause-value
returns-clause-value c =
    subst (λ (l : List (Fingerprint × ℕ)). HasRow l c.args.row c.insert.new.self.entries) c.self.view_is
    (put_is c.self.inside.map.entries c.insert.new.self.entries c.args.row c.in_ok-insert.ensures.updates.0)

pub returns-clause-len : goal.returns-clause-len
returns-clause-len c =
    subst (λ (l : List (Fingerprint × ℕ)). length c.insert.new.self.entries ≡ length l + one_if_new l c.args.row.identity) c.self.view_is
    (put_len c.self.inside.map.entries c.insert.new.self.entries c.args.row c.in_ok-insert.field-0 c.in_ok-insert.ensures.old c.in_ok-insert.ensures.len)
