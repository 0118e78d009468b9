pub mod NumberReadsBack
