use Rattle.std.proofs.Common.{length, refl, take}
use Rattle.item_terms.specs.Items.{items_of}
use Rattle.frame_terms.specs.Documents.{document_of}
use Rattle.vote_frame.specs.Tables.{vote_tables}
use Rattle.vote_doc.specs.{Facts.vote_in, Kept.{kept_with, none_kept}, Reading.with_facts}
use Rattle.vote_terms.specs.Votes.{max_vote}
use Rattle.document_commands.proofs.MadeOf.{comes_of}
use Rattle.document_commands.proofs.vote.VoteDocument.frame.Goals as goal

pub returns-clause-comes : goal.returns-clause-comes
returns-clause-comes c =
    let bytes = c.args.arg2.now in
    comes_of (λ fault. fault) (with_facts bytes) (λ kept n. vote_in (take n bytes) kept) (λ kept n. refl) (λ fault. refl) kept_with none_kept
    (document_of vote_tables (length bytes) (items_of max_vote bytes))
