use Rattle.par2_transform.proofs.Names.{rules, ◌<◌, length-lists_of, ◌≡◌, ◌+◌, ◌-◌, ◌*◌, length, get_or, list_at, lists_of, place_at, read_at, subst, mul, word_of, put_mid, added_to_output}
use Rattle.par2_transform.proofs.outputs.Columns.add_products.Goals as goal

pub returns : goal.returns
returns c =
    let columns = c.args.self.now in
    let place = place_at columns.outputs.places.now c.args.t in
    let was = get_or c.args.buffers.now place.buffer c.index-buffers-buffer.result in
    let start = place.at + 2 * columns.from in
    let bytes = c.as_mut_slice-output.result.now in
    let new = put_mid start (place.at + 2 * columns.to - start) bytes c.add_products.new.dst in
    let in_buffers : place.buffer < length c.args.buffers.now = subst (λ n. place.buffer < n) (length-lists_of c.args.buffers.now) ((c.requires.room c.args.t c.requires.place).0) in
    let size : length new ≡ was.len = search rules in
    let before : bytes ≡ list_at (lists_of c.args.buffers.now) place.buffer = search (rules, read_at) in
    added_to_output columns c.args.t (λ p. mul c.args.c (word_of c.args.row.now p)) c.args.buffers.now was bytes c.add_products.new.dst c.requires.room c.requires.place before size (rw c.new.ensures at c.add_products.ensures)
