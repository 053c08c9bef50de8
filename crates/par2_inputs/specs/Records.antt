-- Records of files, and their slices.
use Rattle.std.specs.Prelude.{◌≡◌, ℕ, List, map, string_bytes}
use Rattle.par2_spec.specs.Prelude.{files_of, File, Folder, all_slices, record_of}
use Rattle.par2_packets.specs.PacketViews.{file_record_of}
use Rattle.par2_packets.specs.declared.record.FileRecord.{FileRecord}
use Rattle.par2_inputs.specs.declared.inputs.Input.{Input}

-- an input as a file
abbrev pub input_file : Input → File
input_file input = (input.name.now, input.bytes.now)

-- the names of the files, in order
abbrev pub names_of : List FileRecord → List (List ℕ)
names_of files = map (λ file. string_bytes file.name) files

-- the records are those of these files for slices of s bytes, one after the other
abbrev pub AreRecords : ℕ → List File → List FileRecord → Type 0
AreRecords s files records = map file_record_of records ≡ map (record_of s) files

-- the padded slices of the files of these records in the folder, one file after the other
abbrev pub slices_of_records : Folder → ℕ → List FileRecord → List (List ℕ)
slices_of_records folder s files = all_slices s (files_of folder (names_of files))
