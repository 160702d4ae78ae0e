-- `read` ensures what is told, and `check_header` the state of an accepted header.
use Rattle.std.proofs.Common.{◌≡◌, sym, ap, ap₂, ◌∙◌, subst, List, ℕ, ◌-◌, arith, length, take, get_or}
use Rattle.std.specs.Prelude.{Option}
use Rattle.record.specs.declared.Checksum.{Checksum}
use Rattle.fields.proofs.HeaderVerdict.{verdict}
use Rattle.checksum.specs.State.{state_from, state_on}
use Rattle.read_interface.specs.ReadInterface.{spoken, ReadTold}
use Rattle.read_interface.proofs.AcceptedTold.{AcceptedTold, accepted_told, long_numbers, long_connection}
use Rattle.read_interface.proofs.CheckedLaws.{passed_on, state_told, state_written, wrong_written}
use Rattle.read_interface.proofs.read_checked.Goals.{After-check_header, After-put_none, After-put_numbers, After-read-answer, Else-answer-ne0, Start}
use Rattle.read_interface.proofs.read_checked.Goals as goal

pub returns-then-answer-ne0 : goal.returns-then-answer-ne0
returns-then-answer-ne0 c =
    let x = c.args in
    passed_on x.bytes.now x.numbers.now x.connection.now c.read-answer.result _ _ c.if-answer-ne0.true c.read-answer.ensures

module _ (c : Else-answer-ne0) where
  abbrev told : After-read-answer
  told = (goal.at.Else-answer-ne0 c).After-read-answer

  abbrev start : Start
  start = (goal.at.After-read-answer told).Start

  abbrev bytes : List ℕ
  bytes = start.args.bytes.now

  abbrev numbers : List ℕ
  numbers = start.args.numbers.now

  abbrev connection : List ℕ
  connection = start.args.connection.now

  -- what `read` left
  abbrev numbers_left : List ℕ
  numbers_left = told.read-answer.new.numbers

  abbrev connection_left : List ℕ
  connection_left = told.read-answer.new.connection

  a : AcceptedTold bytes numbers connection numbers_left connection_left
  a =
      accepted_told bytes numbers connection numbers_left connection_left
      (subst (λ (answer : ℕ). ReadTold (spoken (verdict bytes)) numbers connection answer numbers_left connection_left) c.if-answer-ne0.false told.read-answer.ensures)

module _ (c : After-check_header) where
  abbrev d : Else-answer-ne0
  d = (goal.at.After-check_header c).Else-answer-ne0

  -- the numbers that are read are the header's length and where its area starts
  first : get_or (numbers_left d) 0 0 ≡ (a d).size
  first = ap (λ (l : List ℕ). get_or l 0 0) (a d).numbers_told

  third : get_or (numbers_left d) 2 0 ≡ (a d).size - length (a d).header.area
  third = ap (λ (l : List ℕ). get_or l 2 0) (a d).numbers_told

  state : (x : Option Checksum) → c.check_header.result ≡ x → x ≡ state_on (bytes d) (verdict (bytes d))
  state x e =
      sym e
      ∙ c.check_header.ensures
      ∙ ap₂ state_from (c.front-header.ensures.2 ∙ ap (λ (n : ℕ). take n (bytes d)) first) third
      ∙ state_told (bytes d) (numbers d) (connection d) (numbers_left d) (connection_left d) (a d)

pub bounds-numbers-0 : goal.bounds-numbers-0
bounds-numbers-0 c =
    let e = (goal.at.bounds-numbers-0 c).Else-answer-ne0 in
    let h = long_numbers (bytes e) (numbers e) (connection e) (numbers_left e) (connection_left e) (a e) in
    omega arith

pub bounds-numbers-2 : goal.bounds-numbers-2
bounds-numbers-2 c =
    let e = (goal.at.bounds-numbers-2 c).Else-answer-ne0 in
    let h = long_numbers (bytes e) (numbers e) (connection e) (numbers_left e) (connection_left e) (a e) in
    omega arith

pub bounds-connection-221 : goal.bounds-connection-221
bounds-connection-221 c =
    let e = d (goal.at.bounds-connection-221 c).After-check_header in
    let h = long_connection (bytes e) (numbers e) (connection e) (numbers_left e) (connection_left e) (a e) in
    omega arith

pub returns-in-Some : goal.returns-in-Some
returns-in-Some c =
    let checked = (goal.at.returns-in-Some c).After-check_header in
    let e = d checked in
    state_written (bytes e) (numbers e) (connection e) (numbers_left e) (connection_left e) (a e) c.in-Some.checksum _ c.state_byte.ensures
    (state checked _ c.in-Some.is)

pub returns-in-None : goal.returns-in-None
returns-in-None c =
    let put = (goal.at.returns-in-None c).After-put_numbers in
    let connected = (goal.at.After-put_numbers put).After-put_none in
    let checked = (goal.at.After-put_none connected).After-check_header in
    let e = d checked in
    wrong_written (bytes e) (numbers e) (connection e) (numbers_left e) (connection_left e) (a e) _ _ (state checked _ connected.in-None.is)
    put.put_numbers.ensures
    connected.put_none.ensures
