use Rattle.std.proofs.Common.{◌≡◌, ◌+◌, ◌<◌, ◌++◌, ℕ, Ok, List, length, map, set, sym, ap, subst, string_bytes, arith, rules}
use Rattle.mix_top.specs.Looking.{ReadBelow}
use Rattle.mix_top.proofs.Looks.{line_read, line_unkept, none_given, none_read, read_up}
use Rattle.mix_top.proofs.look.read_disks.Goals as goal

pub disks-init : goal.disks-init
disks-init g c = record {
  lines = λ told. ap Ok (sym c.new-text.ensures.bytes);
  disks = none_read (map g.K.Rack.state c.args.disks.now);
}

pub returns-then-is_err : goal.returns-then-is_err
returns-then-is_err g c =
    let within : c.disks.index < length c.disks.disks = omega (arith, c.disks-test.true, c.requires.count, c.disks.auto.disks) in (
      tt,
      (λ told. tt),
      line_unkept g.K.Rack.state g.K.Rack.tells c.args.shards c.disks.index _ c.args.disks.now c.disks.disks c.index-disks-index.result c.read_line.new.disk
          (string_bytes c.disks.text) c.disks.invariant within c.read_line.result c.read_line.ensures.same c.read_line.ensures.owes
          c.in-Ok.line c.in-Ok.is c.disks-test.true,
    )

pub returns-in-Err : goal.returns-in-Err
returns-in-Err g c =
    let within : c.disks.index < length c.disks.disks = omega (arith, c.disks-test.true, c.requires.count, c.disks.auto.disks) in
    rw c.fault_to_status.ensures (none_given g.K.Rack.state g.K.Rack.tells c.args.shards c.disks.index _ c.args.disks.now c.disks.disks
    c.index-disks-index.result c.read_line.new.disk (string_bytes c.disks.text) c.disks.invariant within c.read_line.result c.read_line.ensures.same
    c.read_line.ensures.owes c.in-Err.fault c.in-Err.is c.disks-test.true c.in-Err.ensures.objection)

pub disks-preserved : goal.disks-preserved
disks-preserved g c =
    let within : c.disks.index < length c.disks.disks = omega (arith, c.disks-test.true, c.requires.count, c.disks.auto.disks) in
    let pushed : string_bytes c.disks.text ++ string_bytes c.in-Ok.line ≡ string_bytes c.push_str.new.self = search (rules) in
    subst
    (λ (text : List ℕ). ReadBelow g.K.Rack.tells c.args.shards (c.disks.index + 1) text (map g.K.Rack.state c.args.disks.now)
    (map g.K.Rack.state (set c.disks.disks c.disks.index c.read_line.new.disk))) pushed
    (line_read g.K.Rack.state g.K.Rack.tells c.args.shards c.disks.index _ c.args.disks.now c.disks.disks c.index-disks-index.result c.read_line.new.disk
    (string_bytes c.disks.text) c.disks.invariant within c.read_line.result c.read_line.ensures.same c.read_line.ensures.owes
    c.in-Ok.line (string_bytes c.in-Ok.line) c.in-Ok.is c.in-Ok.ensures.line)

pub returns : goal.returns
returns g c =
    let all : c.disks.index ≡ c.args.shards = omega (arith, c.disks-test.false, c.disks.auto.index-end) in
    subst
    (λ (place : ℕ). ReadBelow g.K.Rack.tells c.args.shards place (string_bytes c.disks.text) (map g.K.Rack.state c.args.disks.now)
    (map g.K.Rack.state c.disks.disks)) all c.disks.invariant
