use Rattle.std.proofs.Common.{Bool, ap}
use Rattle.consensus_terms.specs.Texts.{protocol_lines, version_lines}
use Rattle.text_page.proofs.Pages.{also, same_text}
use Rattle.consensus_text.proofs.preamble.put_preamble.Goals as goal

pub returns : goal.returns
returns c =
    let lists = c.args.facts.now.lists in
    let always = c.is_34_or_later-always.ensures in
    let versions = same_text _ _ _ _ (ap (λ (b : Bool). version_lines b lists) always) c.put_versions.ensures in
    let protocols = same_text _ _ _ _ (ap (λ (b : Bool). protocol_lines b lists) always) c.put_protocols.ensures in
    also _ _ _ _ _
    (also _ _ _ _ _
    (also _ _ _ _ _
    (also _ _ _ _ _ (also _ _ _ _ _ (also _ _ _ _ _ c.put_kind.ensures c.put_times.ensures) versions) c.put_flags_line.ensures)
    protocols)
    c.put_params_line.ensures)
    c.put_randoms.ensures
