use Rattle.fb_text.proofs.flags.+are_named.Given as goal

abbrev pub decreases-are_named : goal.decreases-are_named
decreases-are_named l = l.bits
