-- The numbers that are too few, the table, and then what `read` has told.
use Rattle.std.proofs.Common.{◌≡◌, sym, ap, ◌∙◌, subst, false, List, ℕ, ◌≤◌, arith, length, take, drop, get_or}
use Rattle.lent.proofs.BufferLaws.{roomy, cramped}
use Rattle.fields.proofs.HeaderVerdict.{verdict}
use Rattle.read_interface.specs.ReadInterface.{spoken, ReadTold}
use Rattle.read_interface.proofs.AcceptedTold.{AcceptedTold, accepted_told}
use Rattle.record.specs.declared.Kind.{Kind}
use Rattle.prefix_table.specs.Table.{rows_of, Good}
use Rattle.prefix_table.specs.TableTests.{good_table}
use Rattle.prefix_table.proofs.TableLaws.{table_tested}
use Rattle.profile.specs.Profile.{Admission, denied, origin_of, by_version, source_level}
use Rattle.admission.specs.Admits.{admission}
use Rattle.admission_interface.specs.AdmissionInterface.{told_admission, AdmissionTold}
use Rattle.admission_interface.proofs.ToldLaws.{empty, passed_on, small_version, by_parts, told_over}
use Rattle.admission_interface.proofs.admit.Goals.{After-admit_header, After-front-header, After-kind_from-kind, After-put_numbers, After-put, After-read-answer, After-tell-told, Else-answer-ne0, Start}
use Rattle.admission_interface.proofs.admit.Goals as goal

pub returns-then-numbers-lt-NUMBERS : goal.returns-then-numbers-lt-NUMBERS
returns-then-numbers-lt-NUMBERS c =
    let numbers = c.args.numbers.now in
    record { answers = cramped 4 numbers _ 14 (omega arith); left = cramped 4 numbers _ numbers (omega arith) }

-- a table that is not good
pub returns-then-not-is_good_table : goal.returns-then-not-is_good_table
returns-then-not-is_good_table c =
    let put = (goal.at.returns-then-not-is_good_table c).After-put_numbers in
    let x = put.args in
    let numbers = x.numbers.now in
    let bad : good_table x.table.now ≡ false =
    sym put.is_good_table.ensures ∙ put.if-not-is_good_table.true in
    let is : denied 34 ≡ admission x.table.now x.bytes.now = rw bad in
    subst (λ (a : Admission). AdmissionTold a numbers 34 put.put_numbers.new.out) is
    (record { answers = roomy 4 numbers 34 14 (omega arith); left = put.put_numbers.ensures })

module _ (c : After-read-answer) where
  abbrev start : Start
  start = (goal.at.After-read-answer c).Start

  abbrev table : List ℕ
  table = start.args.table.now

  abbrev bytes : List ℕ
  bytes = start.args.bytes.now

  abbrev numbers : List ℕ
  numbers = start.args.numbers.now

  -- what `read` left
  abbrev numbers_left : List ℕ
  numbers_left = c.read-answer.new.numbers

  abbrev connection_left : List ℕ
  connection_left = c.read-answer.new.connection

  good : Good table
  good =
      (table_tested table).0 (sym c.is_good_table.ensures ∙ c.if-not-is_good_table.false)

  room : 4 ≤ length numbers
  room = let h = c.if-numbers-lt-NUMBERS.false in omega arith

  told : ReadTold (spoken (verdict bytes)) numbers empty c.read-answer.result numbers_left connection_left
  told = c.read-answer.ensures

-- another answer than accepted
pub returns-then-answer-ne0 : goal.returns-then-answer-ne0
returns-then-answer-ne0 c =
    let r = (goal.at.returns-then-answer-ne0 c).After-read-answer in
    passed_on (table r) (bytes r) (numbers r) (good r) (room r) r.read-answer.result (numbers_left r) (connection_left r) c.if-answer-ne0.true (told r)

-- an accepted header
module _ (c : Else-answer-ne0) where
  abbrev r : After-read-answer
  r = (goal.at.Else-answer-ne0 c).After-read-answer

  a : AcceptedTold (bytes r) (numbers r) empty (numbers_left r) (connection_left r)
  a =
      accepted_told (bytes r) (numbers r) empty (numbers_left r) (connection_left r)
      (subst (λ (answer : ℕ). ReadTold (spoken (verdict (bytes r))) (numbers r) empty answer (numbers_left r) (connection_left r)) c.if-answer-ne0.false (told r))

pub overflow_cast-version : goal.overflow_cast-version
overflow_cast-version c =
    let e = (goal.at.overflow_cast-version c).Else-answer-ne0 in
    let d = r e in
    let h = small_version (table d) (bytes d) (numbers d) (good d) (room d) (numbers_left d) (connection_left d) (a e) in
    omega arith

pub returns : goal.returns
returns c =
    let put = (goal.at.returns c).After-put in
    let said = (goal.at.After-put put).After-tell-told in
    let answered = (goal.at.After-tell-told said).After-admit_header in
    let kind = (goal.at.After-admit_header answered).After-kind_from-kind in
    let cut = (goal.at.After-kind_from-kind kind).After-front-header in
    let e = (goal.at.After-front-header cut).Else-answer-ne0 in
    let d = r e in
    let n = numbers_left d in
    let header = cut.front-header.result.now in
    let parts =
    ap
    (λ (k : Kind). by_version (get_or n 1 0) (origin_of k) (drop (get_or n 2 0) header) (length header) (source_level (rows_of (table d)) (origin_of k) (take 108 (drop 1 (connection_left d)))))
    kind.kind_from-kind.ensures
    ∙ by_parts (table d) (bytes d) (numbers d) (good d) (room d) n (connection_left d) (a e) header cut.front-header.ensures.2 in
    told_over (table d) (bytes d) (numbers d) (good d) (room d) (numbers_left d) (connection_left d) (a e) said.tell-told.result put.put.new.out
    (said.tell-told.ensures ∙ ap told_admission (answered.admit_header.ensures ∙ parts)) put.put.ensures
