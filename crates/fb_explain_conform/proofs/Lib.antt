mod AllAreListed
