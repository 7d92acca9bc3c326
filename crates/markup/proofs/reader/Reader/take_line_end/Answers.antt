-- The CR LF is a token, whose character is told.
use Rattle.markup.proofs.WholeLineEnds.{takes_line_end}
use Rattle.markup.proofs.reader.Reader.take_line_end.Goals as goal

pub returns-clause-taken : goal.returns-clause-taken
returns-clause-taken c limit bytes told h _ =
    let o = c.is_line_end_next.ensures.only c.if-not-is_line_end_next.false in
    rw (c.pass.ensures, c.pass_characters.ensures)
    (takes_line_end c.args.self.now bytes c.args.piece.now o.0 told h (c.is_line_end_next.ensures.ready c.if-not-is_line_end_next.false) o.1)
