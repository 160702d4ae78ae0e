-- The tests are made in the order of `load_answer`.
use Rattle.std.proofs.Common.{ℕ, ◌≤◌, ◌≡◌, sym, ◌∙◌, Bool, true, false, List, arith, length, get_or}
use Rattle.exact.specs.Pick.{pick}
use Rattle.record.specs.declared.Kind.{Kind}
use Rattle.record.specs.declared.Checksum.{Checksum}
use Rattle.std.specs.Prelude.{Option}
use Rattle.kind_code.specs.Codes.{kind_of}
use Rattle.stored_form.specs.declared.StoredVersion.{StoredVersion}
use Rattle.stored_form.specs.Heads.{head_length, state_in}
use Rattle.stored_form.proofs.HeadLaws.{six_at_least}
use Rattle.stored_form.specs.Loading.{no_record, has_mark, has_version, load_block, load_answer}
use Rattle.stored_form.proofs.LoadLaws.{answer_short, answer_mark, answer_version, answer_code, answer_no_state, answer_state}
use Rattle.load.proofs.load_into.Goals.{After-clean_state, After-has_mark, After-has_version, After-head_length, After-kind_of, After-state_in, Else-s-head_length, In-Some, In-Some-state_in}
use Rattle.load.proofs.load_into.Goals as goal

module _ (c : After-head_length) where
  abbrev bytes : List ℕ
  bytes = c.args.s.now

  abbrev version : StoredVersion
  version = c.args.version

pub returns-then-s-head_length : goal.returns-then-s-head_length
returns-then-s-head_length c =
    let d = (goal.at.returns-then-s-head_length c).After-head_length in
    let h = d.head_length.ensures in
    let short = c.if-s-head_length.true in
    sym (answer_short (version d) (bytes d) (omega arith))

-- behind the test of the length
module _ (c : Else-s-head_length) where
  long : head_length (version (goal.at.Else-s-head_length c).After-head_length) ≤ length (bytes (goal.at.Else-s-head_length c).After-head_length)
  long = let h = c.head_length.ensures in let l = c.if-s-head_length.false in omega arith

  six : 6 ≤ length (bytes (goal.at.Else-s-head_length c).After-head_length)
  six = let s = six_at_least (version (goal.at.Else-s-head_length c).After-head_length) in let l = long in omega arith

pub returns-then-not-has_mark : goal.returns-then-not-has_mark
returns-then-not-has_mark c =
    let marked = (goal.at.returns-then-not-has_mark c).After-has_mark in
    let d = (goal.at.After-has_mark marked).After-head_length in
    sym (answer_mark (version d) (bytes d) (long (goal.at.After-has_mark marked).Else-s-head_length) (sym marked.has_mark.ensures ∙ c.if-not-has_mark.true))

pub has_version-requires : goal.has_version-requires
has_version-requires c = six (goal.at.has_version-requires c).Else-s-head_length

-- behind the test of the mark
module _ (c : After-has_version) where
  abbrev lengthy : Else-s-head_length
  lengthy = (goal.at.After-has_version c).Else-s-head_length

  abbrev first : After-head_length
  first = (goal.at.Else-s-head_length lengthy).After-head_length

  marked : has_mark (bytes first) ≡ true
  marked = sym c.has_mark.ensures ∙ c.if-not-has_mark.false

pub returns-then-not-has_version : goal.returns-then-not-has_version
returns-then-not-has_version c =
    let d = (goal.at.returns-then-not-has_version c).After-has_version in
    sym (answer_version (version (first d)) (bytes (first d)) (long (lengthy d)) (marked d) (sym d.has_version.ensures ∙ c.if-not-has_version.true))

pub bounds-s-5 : goal.bounds-s-5
bounds-s-5 c = let s = six (lengthy (goal.at.bounds-s-5 c).After-has_version) in omega arith

-- behind the test of the version
module _ (c : After-kind_of) where
  abbrev tested : After-has_version
  tested = (goal.at.After-kind_of c).After-has_version

  versioned : has_version (version (first tested)) (bytes (first tested)) ≡ true
  versioned = sym tested.has_version.ensures ∙ c.if-not-has_version.false

  found : (x : Option Kind) → c.kind_of.result ≡ x → kind_of (get_or (bytes (first tested)) 5 0) ≡ x
  found x e = sym c.kind_of.ensures ∙ e

pub returns-in_default : goal.returns-in_default
returns-in_default c =
    let d = (goal.at.returns-in_default c).After-kind_of in
    let e = tested d in
    sym (answer_code (version (first e)) (bytes (first e)) (long (lengthy e)) (marked e) (versioned d) (found d _ c.in_default.is))

pub state_in-requires : goal.state_in-requires
state_in-requires c = long (lengthy (tested (goal.at.state_in-requires c).After-kind_of))

-- behind the kind code
module _ (c : After-state_in) where
  abbrev named : In-Some
  named = (goal.at.After-state_in c).In-Some

  abbrev coded : After-kind_of
  coded = (goal.at.In-Some named).After-kind_of

  abbrev at_first : After-head_length
  at_first = first (tested coded)

  abbrev kind : Kind
  kind = named.in-Some.kind

  said : (x : Option Checksum) → c.state_in.result ≡ x → state_in (version at_first) (bytes at_first) ≡ x
  said x e = sym c.state_in.ensures ∙ e

pub returns-in_default-state_in : goal.returns-in_default-state_in
returns-in_default-state_in c =
    let s = (goal.at.returns-in_default-state_in c).After-state_in in
    let d = coded s in
    let e = tested d in
    sym (answer_no_state (version (first e)) (bytes (first e)) (long (lengthy e)) (marked e) (versioned d) (kind s) (found d _ (named s).in-Some.is)
    (said s _ c.in_default-state_in.is))

pub load_block-requires : goal.load_block-requires
load_block-requires c = long (lengthy (tested (coded (goal.at.load_block-requires c).After-state_in)))

-- behind the state
module _ (c : After-clean_state) where
  abbrev stated : In-Some-state_in
  stated = (goal.at.After-clean_state c).In-Some-state_in

  abbrev before-state : After-state_in
  before-state = (goal.at.In-Some-state_in stated).After-state_in

  abbrev at-start : After-head_length
  at-start = at_first before-state

  abbrev checksum : Checksum
  checksum = stated.in-Some-state_in.checksum

  by_state : (b : Bool) → c.clean_state.result ≡ b
      → load_answer (version at-start) (bytes at-start) ≡ pick b (load_block (version at-start) (kind before-state) checksum (bytes at-start)) (no_record 24)
  by_state b e =
      let d = coded before-state in
      let t = tested d in
      answer_state (version at-start) (bytes at-start) (long (lengthy t)) (marked t) (versioned d) (kind before-state)
      (found d _ (named before-state).in-Some.is) checksum (said before-state _ stated.in-Some-state_in.is) b (sym c.clean_state.ensures ∙ e)

pub returns : goal.returns
returns c =
    let d = (goal.at.returns c).After-clean_state in
    let e = by_state d true c.if-not-clean_state.false in
    c.load_block.ensures ∙ sym e

pub returns-then-not-clean_state : goal.returns-then-not-clean_state
returns-then-not-clean_state c =
    let d = (goal.at.returns-then-not-clean_state c).After-clean_state in
    sym (by_state d false c.if-not-clean_state.true)
