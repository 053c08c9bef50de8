-- The outputs of a create by parts: the volumes, into which recovery slices are written, and the places of these.
use Rattle.std.specs.Prelude.{ℕ, ◌≡◌, ◌+◌, ◌*◌, List, ◌++◌, map, flat_map, if◌then◌else◌, length, replicate, Vec}
use Rattle.par2_spec.specs.Prelude.{enumerate_from, range_with_len, packet, Folder, File, has, Change, Write, Replace, recovery_packets, in_id_order, CreateArgs, files_of, recovery}
use Rattle.std.specs.declared.alloc.Global.{Global}
use Rattle.par2_packets.specs.declared.record.FileRecord.{FileRecord}
use Rattle.par2_packets.specs.Recoveries.{undigested}
use Rattle.par2_transform.specs.declared.outputs.Place.{Place}
use Rattle.par2_inputs.specs.Records as records
use Rattle.par2_inputs.specs.declared.inputs.Volume.{Volume}
use Rattle.par2_inputs.specs.declared.records.Parts.{Parts}

-- the records are those of a create's inputs, in the order of their File IDs
abbrev pub RecordsInputs : Folder → CreateArgs → List FileRecord → Type 0
RecordsInputs folder a = records.AreRecords a.slice (in_id_order (files_of folder a.inputs))

-- the padded slices of the set's files in the folder, one file after the other
abbrev pub inputs_of : Parts → List (List ℕ)
inputs_of parts = records.slices_of_records parts.folder.now.files parts.slice parts.files.now

-- the bytes of a volume
abbrev pub volume_file_name : Parts → Volume → List ℕ
volume_file_name parts volume = parts.index.items ++ flat_map packet (recovery_packets parts.slice parts.set_id (inputs_of parts) volume.first volume.count)

-- the change that writes a file, or replaces it if it exists already
abbrev pub put_change : Folder → File → Change
put_change folder file = if has folder file.0 then Replace file.0 file.1 else Write file.0 file.1

-- the bytes of a volume with these recovery slices and without MD5s
abbrev pub volume_with : Parts → (slice : ℕ → List ℕ) → Volume → List ℕ
volume_with parts slice volume = parts.index.items ++ flat_map (λ e. undigested parts.set_id e (slice e)) (range_with_len volume.first volume.count)

-- the volume with zeros for its recovery slices
abbrev pub blank_volume : Parts → Volume → List ℕ
blank_volume parts volume = volume_with parts (λ e. replicate parts.slice 0) volume

-- the volume with its recovery slices
abbrev pub with_slices : Parts → Volume → List ℕ
with_slices parts volume = volume_with parts (recovery parts.slice (inputs_of parts)) volume

-- bytes under a name, as a file
abbrev pub as_file : List ℕ × Vec ℕ Global → File
as_file file = (file.0, file.1.items)

-- the volumes as files, in order
abbrev pub AreFiles : {Z : Type 0} → Parts → List Volume → Vec (List ℕ × Vec ℕ Global) Z → Type 0
AreFiles parts volumes files = map as_file files.items ≡ map (λ volume. (volume.name, volume_file_name parts volume)) volumes

-- the exponents of all volumes' recovery slices, in order
abbrev pub volume_exponents : List Volume → List ℕ
volume_exponents volumes = flat_map (λ volume. range_with_len volume.first volume.count) volumes

-- the length of the index and this many packets of recovery slices
abbrev pub length_with : Parts → ℕ → ℕ
length_with parts packets = length parts.index.items + packets * (68 + parts.slice)

-- the places of a volume's recovery slices, in order: in their packets, after the header and the exponent. The volume
-- comes with its number
abbrev pub places_in : Parts → ℕ × Volume → List Place
places_in parts z = map (λ k. record { buffer = z.0; at = length_with parts k + 68 }) (range_with_len 0 z.1.count)

-- the places of all volumes' recovery slices, in order
abbrev pub places_of : Parts → List Volume → List Place
places_of parts volumes = flat_map (places_in parts) (enumerate_from 0 volumes)
