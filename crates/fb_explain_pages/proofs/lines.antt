pub mod AsciiIsPlain
pub mod WhatIsWrittenIsLines
