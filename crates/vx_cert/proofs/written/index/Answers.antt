use Rattle.vx_cert.proofs.written.index.Goals as goal

pub returns : goal.returns
returns c =
    record {
      version_first = c.in_ok-v.ensures.0;
      version_last = c.in_ok-v.ensures.1;
      line_first = c.in_ok-line.ensures.0;
      line_last = c.in_ok-line.ensures.1;
      time = c.in_ok-time.ensures;
      body = (
        c.in_ok-days.ensures.1,
        c.in_ok-near.ensures,
        c.in_ok-next.ensures,
        c.in_ok-figure.ensures,
      );
    }
