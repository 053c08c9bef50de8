pub returns : Rattle.par2_spec.proofs.packet_laws.packets_then_bytes.Goals.returns
returns c = Rattle.par2_spec.proofs.WrittenSets.packets_then
