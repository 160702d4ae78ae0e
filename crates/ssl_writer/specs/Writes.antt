-- What the writer promises.
use Rattle.std.specs.Prelude.{◌≡◌, List, ℕ, length, take}
use Rattle.answer.specs.Answers.{WriteAnswer, wrote, refuses, output_after}
use Rattle.ssl_reader.specs.Ssl.{accepted, said_in, pieces_in}
use Rattle.ssl_writer.specs.Written.{Piece, ssl_value, ssl_answer}

-- the value reads without refusal, as this client, verify number and pieces, "present and absent alike"
pub record ReadsAs (value : List ℕ) (client verify : ℕ) (pieces : List Piece) : Type 0 where
  pub outcome : (said_in value).outcome ≡ accepted
  pub client_same : (said_in value).client ≡ client
  pub verify_same : (said_in value).verify ≡ verify
  pub pieces_same : pieces_in value (said_in value).parts ≡ pieces

-- "it reads back as them": the bytes that are reported, in what the output then holds
abbrev pub ReadsBack : (client verify : ℕ) → List Piece → WriteAnswer → (after : List ℕ) → Type 0
ReadsBack client verify pieces (wrote n) after = ReadsAs (take n after) client verify pieces
ReadsBack client verify pieces (refuses k) after = Unit {0}

-- for each input the answer, what the output then holds, and that it reads back
pub record Writes (client verify : ℕ) (pieces : List Piece) (output : List ℕ) (answer : WriteAnswer) (after : List ℕ) : Type 0 where
  pub answers : answer ≡ ssl_answer client verify pieces (length output)
  pub left : after ≡ output_after (ssl_answer client verify pieces (length output)) (ssl_value client verify pieces) output
  pub back : ReadsBack client verify pieces answer after
