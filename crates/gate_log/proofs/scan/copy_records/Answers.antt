use Rattle.std.proofs.Common.{◌≢◌, ◌+◌, ◌-◌, length, drop, ◌∙◌, sym, arith, rules, length-drop}
use Rattle.std.proofs.lemmas.List.{take_all}
use Rattle.gate_log.specs.declared.scan.Gate.TheVariants.{Record}
use Rattle.gate_log.specs.Scanning.{gate_of}
use Rattle.gate_log.proofs.Blocks.{more_rest, more_there, more_found, no_more}
use Rattle.gate_log.proofs.scan.copy_records.Goals as goal

pub loop-count-preserved : goal.loop-count-preserved
loop-count-preserved c =
    let loop = c.loop-count in
    let gate = sym c.gate_in.ensures ∙ c.in-Record.is in
    record {
      rest =
          take_all (length loop.rest.now - (c.args.size + 1)) (drop (c.args.size + 1) loop.rest.now) (omega (arith, length-drop (c.args.size + 1) loop.rest.now))
          ∙ more_rest c.args.size loop.count c.args.bytes.now loop.rest.now loop.invariant.there loop.invariant.rest gate;
      there = more_there c.args.size loop.count c.args.bytes.now loop.rest.now loop.invariant.there loop.invariant.rest gate;
      found = more_found c.args.size loop.count c.args.bytes.now loop.rest.now loop.invariant.there loop.invariant.rest gate c.args.found.now.items loop.found.items _ loop.invariant.found (search rules);
      whole = search rules;
    }

pub returns-in_default : goal.returns-in_default
returns-in_default c =
    let loop = c.loop-count in
    let isnt : gate_of c.args.size loop.rest.now ≢ Record = λ is. c.in_default.not-Record (c.gate_in.ensures ∙ is) in
    let all = no_more c.args.size loop.count c.args.bytes.now loop.rest.now loop.invariant.there loop.invariant.rest isnt in
    record { count = omega (arith, all); found = loop.invariant.found; whole = loop.invariant.whole; within = omega arith }
