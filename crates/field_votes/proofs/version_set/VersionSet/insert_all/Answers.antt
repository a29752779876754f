use Rattle.std.{proofs.Common.{List, ℕ, ap, sym, ◌∙◌, drop, ◌+◌}, specs.List.fold}
use Rattle.field_votes.{specs.Versions.with_version, proofs.KeptFlags.flag_before_the_rest}
use Rattle.field_votes.proofs.version_set.VersionSet.insert_all.Goals as goal

pub versions-preserved : goal.versions-preserved
versions-preserved c =
    let list = c.args.list.now in
    let i = c.versions.i in
    ap (λ (set : List (List ℕ)). fold with_version set (drop (i + 1) list)) c.in_ok-insert.ensures
    ∙ sym (ap (fold with_version c.versions.self) (flag_before_the_rest list c.version.result.now i c.version.ensures))
    ∙ c.versions.invariant
