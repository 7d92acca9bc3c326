use Rattle.transcoder.proofs.transcode.push_xml.Goals as goal

pub returns : goal.returns
returns g c v admitted pieces =
    let w = c.write_xml.ensures v admitted pieces in
    record { text = w.0; push = c.write_xml.result; is_out = w.1; ends = c.ended.ensures; pushes = w.2 }
