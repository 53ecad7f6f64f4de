use Rattle.std.proofs.Common.{refl, ap, ◌∙◌, arith, length}
use Rattle.std.proofs.lemmas.Slice.{put_mid-paste}
use Rattle.text.proofs.PutLaws.{paste_all, put_length}
use Rattle.text.proofs.writer.Writer.put.Goals as goal

pub returns : goal.returns
returns c =
    let text = c.args.text.now in
    let w = c.args.self.now in
    let bytes = put_mid-paste w.written _ w.buffer.now _ text _ c.copy_from_slice.ensures.after (omega arith) (omega arith) ∙ paste_all w.buffer.now w.written text in
    record {
      room = c.requires;
      length_kept = ap length bytes ∙ put_length w.buffer.now w.written text c.requires;
      same_buffer = refl;
      written = refl;
      bytes = bytes;
    }
