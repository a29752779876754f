use Rattle.std.proofs.{Common.{sym, ap, ◌∙◌, ℕ, List}, lemmas.Result.IfOk-weaker}
use Rattle.clap.specs.Words.{found_of}
use Rattle.mirror_daemon.{specs.Words.words_of, proofs.Options.{all_told, no_authorities, no_listen, no_peers}}
use Rattle.mirror_daemon.proofs.words.words_in.Goals as goal

pub returns-in_default : goal.returns-in_default
returns-in_default c = sym (no_authorities (found_of c.args.values.now) c.in_default.ensures)

pub returns-in_default-get_str : goal.returns-in_default-get_str
returns-in_default-get_str c =
    sym (no_peers (found_of c.args.values.now) c.in-Some.authorities.now c.in-Some.ensures c.in_default-get_str.ensures)

pub returns-in_default-get_str-2 : goal.returns-in_default-get_str-2
returns-in_default-get_str-2 c =
    sym (no_listen (found_of c.args.values.now) c.in-Some.authorities.now c.in-Some-get_str.peers.now
    c.in-Some.ensures c.in-Some-get_str.ensures c.in_default-get_str-2.ensures)

pub returns : goal.returns
returns c =
    let authorities = c.in-Some.authorities.now in
    let peers = c.in-Some-get_str.peers.now in
    let listen = c.in-Some-get_str-2.listen.now in
    let is = all_told (found_of c.args.values.now) authorities peers listen
    c.in-Some.ensures c.in-Some-get_str.ensures c.in-Some-get_str-2.ensures in
    IfOk-weaker c.words_of.result _ _
    (λ told h. h
    ∙ ap (λ (a : List ℕ). words_of a c.as_bytes-2.result.now c.as_bytes-3.result.now) c.as_bytes.ensures.value
    ∙ ap (λ (p : List ℕ). words_of authorities p c.as_bytes-3.result.now) c.as_bytes-2.ensures.value
    ∙ ap (λ (l : List ℕ). words_of authorities peers l) c.as_bytes-3.ensures.value
    ∙ sym is)
    c.words_of.ensures
