use Rattle.pg_match.proofs.search.StateSets.new.Goals as goal

pub returns-clause-room : goal.returns-clause-room
returns-clause-room g c =
    record {
      now = c.in_ok-current.ensures.good;
      next = c.in_ok-next.ensures.good;
      now_size = c.in_ok-current.ensures.size;
      next_size = c.in_ok-next.ensures.size;
    }
