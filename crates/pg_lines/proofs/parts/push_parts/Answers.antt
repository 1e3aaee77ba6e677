use Rattle.std.proofs.Common.{◌-◌, ◌<◌, length, arith}
use Rattle.pg_lines.proofs.PartLemmas.{pushed_one, pushed_all}
use Rattle.pg_lines.proofs.parts.push_parts.Goals as goal

pub overflow_add-span : goal.overflow_add-span
overflow_add-span g c =
    let within = c.in-Some.ensures.within in
    record { fits = omega (arith, within.1, within.2, c.requires.within) }

pub overflow_add-span-in-Some : goal.overflow_add-span-in-Some
overflow_add-span-in-Some g c =
    let within = c.in-Some.ensures.within in
    record { fits = omega (arith, within.2, c.requires.within) }

pub loop-start-smaller : goal.loop-start-smaller
loop-start-smaller g c =
    let within = c.in-Some.ensures.within in
    let smaller : length c.args.line.now - c.in-Some.end < length c.args.line.now - c.loop-start.place =
    omega (arith, within.0, within.1, within.2) in
    smaller

pub loop-start-preserved : goal.loop-start-preserved
loop-start-preserved g c =
    let text = c.args.query.now.text in
    record {
      fits = c.next_part.ensures.fits;
      within = c.in-Some.ensures.within.2;
      pushed = pushed_one text c.args.line.now c.args.at c.args.number c.args.found.now.items c.loop-start.place
          c.in-Some.start c.in-Some.end c.loop-start.found.items c.push.new.self.items c.loop-start.invariant.pushed
          (λ trees spelled. c.in-Some.ensures.next trees spelled) c.in_ok-push.ensures.items;
    }

pub returns-clause-parts : goal.returns-clause-parts
returns-clause-parts g c = λ trees spelled.
    pushed_all c.args.query.now.text c.args.line.now c.args.at c.args.number c.args.found.now.items c.loop-start.place
    c.loop-start.found.items c.loop-start.invariant.pushed trees spelled (c.in_default.ensures.next trees spelled)
