-- What is read of a request whose head is read first.
use Rattle.std.proofs.Common.{◌≡◌, List, ℕ, Option, Ok}
use Rattle.dir_http.{specs.{declared.head.Head.Head, Requests.ReadsHead}, proofs.WholeRequests.whole_request}
use Rattle.http_words.specs.declared.asked.Asked.TheVariants as asked
use Rattle.http_words.specs.Paths.{asked_by}
use Rattle.vote_terms.specs.Votes.{ReadVote}
use Rattle.lone_vote.specs.Reading.{FindsVote}
use Rattle.serve_answers.specs.Requests.{ReadsUpload}

-- a vote that was found behind a head is uploaded
pub upload_read : (left mid : Option (List ℕ)) (head : Head) (found : Option ReadVote) → ReadsHead left mid (Ok head)
    → asked_by head.method head.path ≡ asked.PostVote → FindsVote head mid found → ReadsUpload left found
upload_read left mid head found at asks finds = record {
  request = record { method = head.method; path = head.path; body = finds.body };
  reads = whole_request left mid head (Ok finds.body) at finds.reads;
  asks = asks;
  is = finds.is;
}
