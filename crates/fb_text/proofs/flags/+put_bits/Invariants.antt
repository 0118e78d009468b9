use Rattle.fb_text.proofs.flags.+put_bits.Given as goal

abbrev pub decreases-put_bits : goal.decreases-put_bits
decreases-put_bits g l = l.bits
