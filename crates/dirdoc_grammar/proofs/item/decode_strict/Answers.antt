use Rattle.dirdoc_grammar.proofs.Base64Groups.{never_fails}
use Rattle.dirdoc_grammar.proofs.item.decode_strict.Goals as goal

pub unreachable-requires : goal.unreachable-requires
unreachable-requires c =
    let e = c.in-Err-DecodeError in
    never_fails c.args.text.now e.field-0 e.field-0-0 c.requires e.field-0-is e.ensures.err
