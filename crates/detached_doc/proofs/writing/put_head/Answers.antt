use Rattle.std.proofs.Common.{[], ◌++◌, sym}
use Rattle.dir_bytes.specs.FieldTexts.{hex_text}
use Rattle.dirdoc_grammar.specs.Writing.{item_text}
use Rattle.frame_terms.specs.declared.keyword.Keyword.TheVariants as the
use Rattle.frame_values.specs.Items.{bare, moment_item}
use Rattle.text_page.proofs.Pages.{also, with_text-nothing}
use Rattle.detached_doc.specs.Private.{head_text}
use Rattle.detached_doc.proofs.writing.put_head.Goals as goal

pub returns : goal.returns
unfolding head_text
returns c =
    let d = c.args.detached.now in
    let digest = item_text (bare the.ConsensusDigest (hex_text d.ns.0)) in
    let begins = item_text (moment_item the.ValidAfter d.valid_after) in
    let fresh = item_text (moment_item the.FreshUntil d.fresh_until) in
    let ends = item_text (moment_item the.ValidUntil d.valid_until) in
    let last = also _ _ _ ends [] c.put_moment_line-3.ensures (sym (with_text-nothing c.put_moment_line-3.new.page)) in
    also _ _ _ digest (begins ++ (fresh ++ (ends ++ []))) c.put_hex_line.ensures
    (also _ _ _ begins (fresh ++ (ends ++ [])) c.put_moment_line.ensures
    (also _ _ _ fresh (ends ++ []) c.put_moment_line-2.ensures last))
